-- Orders of some nodes of a graph that are taken one by one, each the greatest whose children were
-- all taken before.
-- Cited by contracts of public items: TakesGreatestFirst.
use Rattle.std.specs.Prelude.{◌≡◌, ℕ, ◌<◌, ◌∷◌, ◌++◌, List, [], length, map, MatchOption, slice_index_or, false, eqb}
use Rattle.std.specs.declared.option.Option.{Option}
use Rattle.std.specs.declared.option.Option.TheVariants.{None, Some}
use Rattle.std.specs.declared.cmp.Ordering.{Ordering}
use Rattle.std.specs.declared.vec.Vec.{Vec}
use Rattle.std.specs.Global.{Global}
use Rattle.std.specs.Ordering.{is_lt}
use Rattle.std.specs.List.{Contains, count_by, sum_by}
use Rattle.jj_dag.specs.Graph.{Graph, HasEdge}

-- b is one of the nodes and was not taken, but every node with an edge to it was
abbrev pub IsReady : Graph → (ℕ → Type 0) → List ℕ → ℕ → Type 0
IsReady g IsNode taken b = IsNode b × (Contains taken b → ⊥)
    × ((c : ℕ) → IsNode c → HasEdge g c b → Contains taken c)

-- each node of the list was ready after those before it, and no node that was ready then is above
-- it
pub record TakesGreatestReady (g : Graph) (IsNode : ℕ → Type 0) (NotBelow : ℕ → ℕ → Type 0)
    (order : List ℕ) : Type 0 where
  pub ready : (prefix suffix : List ℕ) (a : ℕ) → order ≡ prefix ++ a ∷ suffix
      → IsReady g IsNode prefix a
  pub greatest : (prefix suffix : List ℕ) (a b : ℕ) → order ≡ prefix ++ a ∷ suffix
      → IsReady g IsNode prefix b → NotBelow a b

-- each node that was not taken has an edge from another such node
abbrev pub IsStuck : Graph → (ℕ → Type 0) → List ℕ → Type 0
IsStuck g IsNode taken = (a : ℕ) → IsNode a → (Contains taken a → ⊥) → (c : ℕ) × IsNode c
    × (Contains taken c → ⊥) × HasEdge g c a

-- the graph whose nodes are the indices of the list
abbrev pub index_graph : List (List ℕ) → Graph
index_graph targets k = slice_index_or targets k []

-- how many edges lead to k
abbrev pub in_degree : List (List ℕ) → ℕ → ℕ
in_degree targets k = sum_by (λ ts. count_by (eqb k) ts) targets

-- the value at a is not below the value at b
abbrev pub IsNotBelow : {T : Type 0} → (T → T → Ordering) → List (Option T) → ℕ → ℕ → Type 0
IsNotBelow {T} cmp slots a b = (x y : T) → slice_index_or slots a None ≡ Some x
    → slice_index_or slots b None ≡ Some y → is_lt (cmp x y) ≡ false

-- the values that were taken are those at the indices of such an order; `r.1` is one of those that
-- are left, if there are any, and these are stuck
abbrev pub TakesGreatestFirst : {T : Type 0} → (T → T → Ordering) → List (Option T) → List (List ℕ)
    → Vec T Global × Option T → Type 0
TakesGreatestFirst cmp slots targets r = (order : List ℕ)
    × (map (λ x. Some x) r.0.items ≡ map (λ k. slice_index_or slots k None) order)
    × TakesGreatestReady (index_graph targets) (λ k. k < length slots) (IsNotBelow cmp slots) order
    × MatchOption r.1 ((k : ℕ) → k < length slots → Contains order k)
    (λ x. (k : ℕ) × (k < length slots) × (slice_index_or slots k None ≡ Some x)
    × (Contains order k → ⊥) × IsStuck (index_graph targets) (λ k. k < length slots) order)
