-- The result of a search for the closest common nodes, from the states of the nodes of two sets.
-- Machinery of private functions and fields.
use Rattle.std.specs.Prelude.{◌≡◌, ℕ, ◌==◌, true, false, ◌||◌, List, ◌++◌, map, Result, IfOk, eqb}
use Rattle.std.specs.List.{IsDistinct, list_any}
use Rattle.jj_dag.specs.declared.closest_common.NodeState.{NodeState}
use Rattle.jj_dag.specs.declared.closest_common.Sides.{Sides}
use Rattle.jj_dag.specs.declared.walk_error.WalkError.{WalkError}
use Rattle.jj_dag.specs.ClosureGraph.{ClosureGraph}
use Rattle.jj_dag.specs.Found.{AreClosestNodes}
use Rattle.jj_dag.specs.Graph.{ReachedFrom}
use Rattle.jj_dag.specs.Outcomes.{IfFails}
use Rattle.jj_dag.specs.Walk.{AreNodes, GraphModel}

-- the sides of a node if only the nodes of the two sets have a state
abbrev pub sides_of_sets : List ℕ → List ℕ → ℕ → Sides
sides_of_sets set1 set2 b = record {
  left = list_any (λ a. b == a) set1;
  right = list_any (λ a. b == a) set2;
  below = false;
}

module _ {T ID : Type 0} (w : GraphModel T ID) where
  -- the map has these states for the nodes, and the pending ones are in the heap, each once
  pub record KnowsStates (m : ℕ → Sides) (pending : List T) (find : ID → NodeState) : Type 0 where
    pub knows : (i : ID) → w.is_node (w.id i) ≡ true → find i ≡ record {
      sides = m (w.id i);
      is_pending = list_any (λ a. w.id i == a) (map w.node pending);
    }
    pub distinct : IsDistinct eqb (map w.node pending)

  -- the nodes of the two sets have their states, and they all are pending
  pub record IsStarting (set1 set2 : List ℕ) (pending : List T) (find : ID → NodeState)
      : Type 0 where
    pub states : KnowsStates (sides_of_sets set1 set2) pending find
    pub is_pending : (b : ℕ) → list_any (λ a. b == a) (map w.node pending)
        ≡ (list_any (λ a. b == a) set1 || list_any (λ a. b == a) set2)

module _ {T ID E : Type 0} (graph : ClosureGraph T ID E) (find : ID → NodeState)
    (pending : List T) where
  -- P of each model that the closures implement, and of two sets whose nodes have these states
  abbrev pub FromStates : (GraphModel T ID → List ℕ → List ℕ → Type 0) → Type 0
  FromStates P = (walk : GraphModel T ID) (set1 set2 : List ℕ) → graph.implements walk
      → AreNodes walk set1 → AreNodes walk set2 → IsStarting walk set1 set2 pending find
      → P walk set1 set2

  -- the closest common nodes, as the list that is read off what was found, or an error that the
  -- closures may return for a node that one of the sets reaches
  pub record SearchesCommon {V : Type 0} (r : Result V (WalkError E)) (list : V → List T)
      : Type 0 where
    pub closest : IfOk r (λ found. FromStates (λ walk set1 set2.
        AreClosestNodes walk set1 set2 (list found)))
    pub error : IfFails r (λ error. (x : T) × graph.fails x error
        × FromStates (λ walk set1 set2. ReachedFrom walk.graph (set1 ++ set2) (walk.node x)))
