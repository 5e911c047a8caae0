-- The frontier of a search for common nodes of a ranked graph.
-- Machinery of private functions and fields.
use Rattle.std.specs.Prelude.{◌≡◌, ◌&&◌, ◌||◌, ℕ, Bool, List, true, false, not}
use Rattle.std.specs.List.{Contains}
use Rattle.jj_dag.specs.declared.closest_common.NodeState.{NodeState}
use Rattle.jj_dag.specs.declared.closest_common.Sides.{Sides}
use Rattle.jj_dag.specs.Graph.{Graph}
use Rattle.jj_dag.specs.Walk.{GraphModel}

abbrev pub left_side : Sides
left_side = record { left = true; right = false; below = false }

abbrev pub right_side : Sides
right_side = record { left = false; right = true; below = false }

-- the node is pending, this side reaches it, and no common node is known to reach it
abbrev pub is_open : NodeState → Sides → Bool
is_open state side = (((side.left && state.sides.left) || (side.right && state.sides.right))
    && state.is_pending) && not state.sides.below

-- the list has all nodes that are open from this side
abbrev pub HasOpen : (ℕ → NodeState) → Sides → List ℕ → Type 0
HasOpen find side nodes = (n : ℕ) → is_open (find n) side ≡ true → Contains nodes n

-- no node is open from this side
abbrev pub HasNoneOpen : (ℕ → NodeState) → Sides → Type 0
HasNoneOpen find side = (n : ℕ) → is_open (find n) side ≡ false

-- the lists have all nodes that are open from the left, and from the right
pub record ListsOpen (find : ℕ → NodeState) (left right : List ℕ) : Type 0 where
  pub from_left : HasOpen find left_side left
  pub from_right : HasOpen find right_side right

-- the model of a graph whose nodes come with their ranks
abbrev pub model_of_pairs : Graph → GraphModel (ℕ × ℕ) ℕ
model_of_pairs graph = record {
  graph = graph;
  is_node = λ node. true;
  node = λ entry. entry.1;
  id = λ node. node;
}

-- entries of the frontier have the ranks of their nodes
abbrev pub AreRanked : (ℕ → ℕ) → List (ℕ × ℕ) → Type 0
AreRanked rank entries = (entry : ℕ × ℕ) → Contains entries entry → entry.0 ≡ rank entry.1
