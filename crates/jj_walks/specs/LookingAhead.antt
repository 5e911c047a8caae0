-- Invariant of exploring from several starts: explored and pending nodes.
-- Machinery of private functions and fields.
use Rattle.std.specs.Prelude.{◌≡◌, ℕ, ◌==◌, ◌≤◌, Bool, false, cond, Option, List, [], map}
use Rattle.std.specs.List.{Contains, sum_by}
use Rattle.jj_dag.specs.Collecting.{IsCollecting}
use Rattle.jj_dag.specs.Graph.{HasEdge}
use Rattle.jj_dag.specs.FallibleGraphs.{FallibleGraph}
use Rattle.jj_dag.specs.Walk.{GraphModel}

-- how often the list has the node of this number
abbrev pub copies : {T : Type 0} → (T → ℕ) → List T → ℕ → ℕ
copies node xs a = sum_by (λ x. cond (node x == a) 1 0) xs

module _ {T ID K : Type 0} (w : GraphModel T ID) (items : FallibleGraph K) where
  -- `work` is pending and `visited` explored; a start that is a neighbor of an explored node, and
  -- is not explored, is pending twice
  pub record IsLooking (starts : List ℕ) (find : ID → Option ℕ) (root_met : Bool)
      (work visited : List T) (ids : List (List ID)) : Type 0 where
    pub collecting : IsCollecting w items starts find work visited ids
    pub twice : (a b : ℕ) → Contains starts a → (Contains (map w.node visited) a → ⊥)
        → Contains (map w.node visited) b → HasEdge w.graph b a → 2 ≤ copies w.node work a
    pub rootless : root_met ≡ false → (b : ℕ) → Contains (map w.node visited) b → (c : ℕ)
        × HasEdge w.graph b c

  -- at the end of the exploration: if nodes are pending, each explored node has a neighbor
  pub record HasLooked (starts : List ℕ) (find : ID → Option ℕ) (work visited : List T)
      (ids : List (List ID)) : Type 0 where
    pub collecting : IsCollecting w items starts find work visited ids
    pub twice : (a b : ℕ) → Contains starts a → (Contains (map w.node visited) a → ⊥)
        → Contains (map w.node visited) b → HasEdge w.graph b a → 2 ≤ copies w.node work a
    pub rootless : (work ≡ [] → ⊥) → (b : ℕ) → Contains (map w.node visited) b → (c : ℕ)
        × HasEdge w.graph b c
