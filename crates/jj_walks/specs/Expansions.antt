-- The graph of the item lists that one run of a search received, where items may fail.
-- Cited by contracts of public items: IsRun.
use Rattle.std.specs.Prelude.{◌≡◌, ℕ, ◌==◌, Bool, true, List, [], ◌∷◌, map, reverse, Result, if◌then◌else◌}
use Rattle.std.specs.declared.result.Result.TheVariants.{Ok, Err}
use Rattle.std.specs.Fn.{Shared, Mut, AlwaysReturns, CalledAt}
use Rattle.std.specs.List.{Contains}
use Rattle.std.specs.declared.alloc.AllocError.{AllocError}
use denote.Ref.{Bor}
use Rattle.jj_dag.specs.ClosureGraph.{Implements, MayReturn}
use Rattle.jj_dag.specs.FallibleGraphs.{FallibleGraph, IsFalliblePreorder, ok_items}
use Rattle.jj_dag.specs.Walk.{AreNodes, GraphModel}

-- a node that the search expanded, and the items that `neighbors_fn` returned for it
pub record Expansion (T E : Type 0) : Type 0 where
  pub node : T
  pub items : List (Result T E)

-- calls for these nodes, the last one first, returned their items and led the closure from its
-- first state to this one
pub data ExpansionsLead {T E N R : Type 0} (lists : Mut N (Bor T × Unit {0}) R)
    (yields : R → List (Result T E) → Type 0) (first : N) : List (Expansion T E) → N → Type 0 where
  none : ExpansionsLead lists yields first [] first
  one_more : {x : Expansion T E} {expansions : List (Expansion T E)} {f f' : N} {r : R}
      → ExpansionsLead lists yields first expansions f → CalledAt lists f x.node r f'
      → yields r x.items → ExpansionsLead lists yields first (x ∷ expansions) f'

-- the item with the number of its node
abbrev pub item_of : {T E : Type 0} → (T → ℕ) → Result T E → Result ℕ E
item_of number (Ok x) = Ok (number x)
item_of number (Err e) = Err e

-- the graph of the items returned: a node that was not expanded has none
abbrev pub expansions_graph : {T E : Type 0} → (T → ℕ) → List (Expansion T E) → FallibleGraph E
expansions_graph number [] a = []
expansions_graph number (x ∷ xs) a = if number x.node == a then map (item_of number) x.items
    else expansions_graph number xs a

-- the graph has these items of each node that was expanded
abbrev pub HasItemsOf : {T E : Type 0} → (T → ℕ) → FallibleGraph E → List (Expansion T E) → Type 0
HasItemsOf {T} {E} number graph expansions = (x : Expansion T E) → Contains expansions x
    → graph (number x.node) ≡ map (item_of number) x.items

module _ {T ID E F N R : Type 0} (g : GraphModel T ID) (eq : ID → ID → Bool)
    (ids : Shared F (Bor T × Unit {0}) (Result ID AllocError)) (lists : Mut N (Bor T × Unit {0}) R)
    (yields : R → List (Result T E) → Type 0) where
  -- The closures implement the model, and each node that `neighbors_fn` lists beside failed items
  -- is a neighbor too.
  pub record ImplementsItems (id_fn : F) (neighbors_fn : N) : Type 0 where
    pub complete : Implements g eq ids lists (λ r xs. yields r (map Ok xs)) id_fn neighbors_fn
    pub partial : AlwaysReturns lists (λ a r. (xs : List (Result T E)) (x : T)
        → g.is_node (g.node a.0.now) ≡ true → yields r xs → Contains xs (Ok x)
        → Contains (g.graph (g.node a.0.now)) (g.node x)) neighbors_fn

module _ {T ID E F N R : Type 0} (eq : ID → ID → Bool)
    (ids : Shared F (Bor T × Unit {0}) (Result ID AllocError)) (lists : Mut N (Bor T × Unit {0}) R)
    (yields : R → List (Result T E) → Type 0) where
  -- `neighbors_fn` may return these items for the node
  abbrev pub MayList : N → Expansion T E → Type 0
  MayList neighbors_fn x = (r : R) × MayReturn lists neighbors_fn x.node r × yields r x.items

  -- A complete search from these starts yielded these items: it expanded each node yielded once, in
  -- this order, and in each model the items yielded are the depth-first preorder of the graph of
  -- the items that `neighbors_fn` returned, errors included.
  pub record IsRun (id_fn : F) (neighbors_fn : N) (starts yielded : List (Result T E))
      : Type 0 where
    pub expansions : List (Expansion T E)
    pub last : N
    pub in_turn : ExpansionsLead lists yields neighbors_fn expansions last
    pub expanded : reverse (map (λ x. x.node) expansions) ≡ ok_items yielded
    pub preorder : (g : GraphModel T ID)
        → ImplementsItems g eq ids lists yields id_fn neighbors_fn
        → AreNodes g (ok_items (map (item_of g.node) starts))
        → HasItemsOf g.node (expansions_graph g.node expansions) expansions
        × IsFalliblePreorder (expansions_graph g.node expansions) (map (item_of g.node) starts)
        (map (item_of g.node) yielded)
