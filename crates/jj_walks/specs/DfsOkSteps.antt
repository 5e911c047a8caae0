-- Steps of the iterator `DepthFirstOk`.
-- Cited by contracts of public items: StartsWalk, Steps, items_left.
use Rattle.std.specs.Prelude.{◌≡◌, ℕ, ◌+◌, ◌*◌, ◌-◌, ◌^◌, Bool, List, [], ◌∷◌, ◌++◌, length, map, reverse, Option, Result, MatchOption, MatchResult, IfErr, IsNone}
use Rattle.std.specs.declared.result.Result.TheVariants.{Ok, Err}
use Rattle.std.specs.Iterator.{Count, IsFiniteIterable}
use Rattle.std.specs.Fn.{Shared, Mut}
use Rattle.std.specs.HashSet.{contains, hash_set_len}
use Rattle.std.specs.declared.alloc.AllocError.{AllocError}
use Rattle.std.specs.declared.iter.IntoIterator as into
use Rattle.std.specs.declared.iter.Iterator as iter
use denote.Ref.{Bor}
use Rattle.jj_walks.specs.declared.depth_first.DepthFirstOk.{DepthFirstOk}
use Rattle.jj_dag.specs.declared.walk_error.WalkError.{WalkError}
use Rattle.jj_dag.specs.declared.walk_error.WalkError.TheVariants.{Memory, Node}
use Rattle.jj_dag.specs.ClosureGraph.{IsWalkable}
use Rattle.jj_dag.specs.Walk.{AreNodes, DrainsTo, GraphModel}
use Rattle.jj_dag.specs.Errors.{IfMemory}
use Rattle.jj_dag.specs.FallibleGraphs.{FallibleGraph, IsWalkingItems, ok_items}
use Rattle.jj_walks.specs.Expansions.{Expansion, ExpansionsLead, HasItemsOf, ImplementsItems, IsRun, expansions_graph, item_of}

-- an upper bound on the items to come: a node inserts an id into a set of fewer than 2^63, and a
-- failed item is popped from the stack
abbrev pub items_left : {T ID E F N : Type 0} → DepthFirstOk T ID E F N → ℕ
items_left s = elim s.work.items [
  | [] ↦ 0
  | x ∷ xs ↦ 1 +
      ((2 ^ 63 - hash_set_len s.visited) * 2 ^ 63 + length xs)
]

-- the stack is empty
abbrev pub HasEnded : {T ID E F N : Type 0} → DepthFirstOk T ID E F N → Type 0
HasEnded s = s.work.items ≡ []

-- In the model, a search from these starts that expanded these nodes has yielded these items, and
-- `work` is its stack. Whatever graph extends the items of the expanded nodes, the search continues
-- the preorder of that graph.
pub record IsWalkingExpansions {T ID E : Type 0} (g : GraphModel T ID) (test : ID → Bool)
    (expansions : List (Expansion T E)) (starts work yielded : List (Result T E)) : Type 0 where
  pub has_items : HasItemsOf g.node (expansions_graph g.node expansions) expansions
  pub walking : (graph : FallibleGraph E) → HasItemsOf g.node graph expansions
      → IsWalkingItems g graph (map (item_of g.node) starts) test (map (item_of g.node) work)
      (map (item_of g.node) yielded)

module _ {T ID E F N U S : Type 0} (ids : Shared F (Bor T × Unit {0}) (Result ID AllocError))
    (lists : Mut N (Bor T × Unit {0}) U) where
  -- s is the state of a depth-first search that began with these closures and starts, and has
  -- yielded these items
  pub record IsLeftOf (eq : ID → ID → Bool)
      (becomes : U → S → Type 0) (steps : S → Option (Result T E) → S → Type 0)
      (id_fn : F) (neighbors_fn : N) (starts yielded : List (Result T E))
      (s : DepthFirstOk T ID E F N) : Type 0 where
    pub same_ids : s.id_fn ≡ id_fn
    pub expansions : List (Expansion T E)
    pub in_turn : ExpansionsLead lists (DrainsTo becomes steps) neighbors_fn expansions
        s.neighbors_fn
    pub expanded : reverse (map (λ x. x.node) expansions) ≡ ok_items yielded
    pub walks : (g : GraphModel T ID)
        → ImplementsItems g eq ids lists (DrainsTo becomes steps) id_fn neighbors_fn
        → AreNodes g (ok_items (map (item_of g.node) starts))
        → IsWalkingExpansions g (contains eq s.visited) expansions starts s.work.items yielded

  -- the search yields one more item, or ends as a complete run, or runs out of memory and ends
  abbrev pub WalksOn : (ID → ID → Bool) → (U → S → Type 0) → (S → Option (Result T E) → S → Type 0)
      → DepthFirstOk T ID E F N → Option (Result T (WalkError E)) → DepthFirstOk T ID E F N → Type 0
  WalksOn eq becomes steps s r t =
      (id_fn : F) (neighbors_fn : N) (starts yielded : List (Result T E))
      → IsLeftOf eq becomes steps id_fn neighbors_fn starts yielded s →
      MatchOption r (IsRun eq ids lists (DrainsTo becomes steps) id_fn neighbors_fn starts yielded
      × (t.work.items ≡ []))
      (λ x. MatchResult x (λ node. IsLeftOf eq becomes steps id_fn neighbors_fn starts
      (yielded ++ Ok node ∷ []) t)
      (λ failure. elim failure [
        | Memory ↦ t.work.items
            ≡ []
        | Node e ↦ IsLeftOf eq becomes steps id_fn neighbors_fn starts (yielded ++ Err e ∷ []) t
      ]))

  -- One call at s, which returned r and left t: the search goes on, `next` may be called again
  -- whatever it returned, `None` and `Memory` end the search, and then each call returns `None`.
  pub record Steps (eq : ID → ID → Bool) (becomes : U → S → Type 0)
      (steps : S → Option (Result T E) → S → Type 0) (can : S → Type 0) (left : S → Count)
      (s : DepthFirstOk T ID E F N) (r : Option (Result T (WalkError E)))
      (t : DepthFirstOk T ID E F N) : Type 0 where
    pub walks : WalksOn eq becomes steps s r t
    pub again : IsWalkable ids lists (IsFiniteIterable becomes can left) t.id_fn t.neighbors_fn
    pub ends : MatchOption r (HasEnded t) (λ x. IfErr x (λ failure. IfMemory failure (HasEnded t)))
    pub ended : HasEnded s → IsNone r × HasEnded t

  -- the state before the first step of a depth-first search from the starts
  pub record StartsWalk {II I : Type 0} (eq : ID → ID → Bool) (becomes : U → S → Type 0)
      (steps : S → Option (Result T E) → S → Type 0) (first : into.Ghosts II (Result T E) I)
      (first_items : iter.Ghosts I (Result T E)) (id_fn : F) (neighbors_fn : N) (start : II)
      (it : DepthFirstOk T ID E F N) : Type 0 where
    pub starts : List (Result T E)
    pub yielded : DrainsTo first.into_iter_gives first_items.next_gives start starts
    pub whole : IsLeftOf eq becomes steps id_fn neighbors_fn starts [] it
