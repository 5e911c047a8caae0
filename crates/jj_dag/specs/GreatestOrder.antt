-- The greatest child-first order.
-- Cited by contracts of public items: IsGreatestOrder.
use Rattle.std.specs.Prelude.{◌≡◌, ℕ, List, ◌∷◌, ◌++◌, false, map}
use Rattle.std.specs.List.{Contains}
use Rattle.std.specs.Ordering.{is_lt}
use Rattle.std.specs.declared.cmp.Ordering.{Ordering}
use Rattle.jj_dag.specs.Graph.{IsAcyclicFrom, IsTopologicalOrder}
use Rattle.jj_dag.specs.Walk.{AreNodes, GraphModel}

-- the values are those of a topological order of the nodes that the starts reach, and these reach
-- no cycle; where another such order first differs, the value here is not less than that of the
-- node there
pub record IsGreatestOrder {T ID : Type 0} (cmp : T → T → Ordering) (walk : GraphModel T ID)
    (starts : List ℕ) (order : List T) : Type 0 where
  pub nodes : AreNodes walk (map walk.node order)
  pub child_first : IsTopologicalOrder walk.graph starts (map walk.node order)
  pub no_cycle : IsAcyclicFrom walk.graph starts
  pub greatest : (other : List ℕ) → IsTopologicalOrder walk.graph starts other
      → (prefix highs : List T) (x y : T) (lows : List ℕ) → order ≡ prefix ++ x ∷ highs
      → Contains order y → other ≡ map walk.node prefix ++ walk.node y ∷ lows
      → is_lt (cmp x y) ≡ false
