-- Steps of the iterator `DepthFirst`.
-- Cited by contracts of public items: IsLeftOf, Steps, items_left.
use Rattle.std.specs.Prelude.{◌≡◌, ℕ, ◌+◌, ◌-◌, ◌^◌, Bool, List, [], ◌∷◌, ◌++◌, map, Option, Result, MatchOption, MatchResult, IfErr, IsNone}
use Rattle.std.specs.Iterator.{Count, IsFiniteIterable}
use Rattle.std.specs.Fn.{Shared, Mut}
use Rattle.std.specs.HashSet.{contains, hash_set_len}
use Rattle.std.specs.declared.alloc.AllocError.{AllocError}
use denote.Ref.{Bor}
use Rattle.jj_walks.specs.declared.depth_first.DepthFirst.{DepthFirst}
use Rattle.jj_dag.specs.Graph.{IsPreorder}
use Rattle.jj_dag.specs.ClosureGraph.{Implements, IsWalkable}
use Rattle.jj_dag.specs.Walk.{DrainsTo, IsWalking, GraphModel}

-- an upper bound on the items to come: an error ends the walk, and each other item inserts an id
-- into a set of fewer than 2^63
abbrev pub items_left : {T ID F N : Type 0} → DepthFirst T ID F N → ℕ
items_left s = elim s.work.items [ [] ↦ 0 | x ∷ xs ↦ 1 + (2 ^ 63 - hash_set_len s.visited) ]

-- the stack is empty
abbrev pub HasEnded : {T ID F N : Type 0} → DepthFirst T ID F N → Type 0
HasEnded s = s.work.items ≡ []

module _ {T ID F N U S : Type 0} (ids : Shared F (Bor T × Unit {0}) (Result ID AllocError))
    (lists : Mut N (Bor T × Unit {0}) U) where
  -- s is the state of a depth-first search from these starts that has yielded these nodes
  pub record IsLeftOf (w : GraphModel T ID) (eq : ID → ID → Bool) (becomes : U → S → Type 0)
      (steps : S → Option T → S → Type 0) (starts : List ℕ) (yielded : List T)
      (s : DepthFirst T ID F N) : Type 0 where
    pub implemented : Implements w eq ids lists (DrainsTo becomes steps) s.id_fn s.neighbors_fn
    pub walking : IsWalking w starts (contains eq s.visited) s.work.items yielded

  -- the search yields one more node, or ends with the preorder of its starts, or runs out of memory
  -- and ends
  abbrev pub WalksOn : (ID → ID → Bool) → (U → S → Type 0) → (S → Option T → S → Type 0)
      → DepthFirst T ID F N → Option (Result T AllocError) → DepthFirst T ID F N → Type 0
  WalksOn eq becomes steps s r t =
      (w : GraphModel T ID) (starts : List ℕ) (yielded : List T)
      → IsLeftOf w eq becomes steps starts yielded s →
      MatchOption r (IsPreorder w.graph starts (map w.node yielded) × (t.work.items ≡ []))
      (λ x. MatchResult x (λ node. IsLeftOf w eq becomes steps starts (yielded ++ node ∷ []) t)
      (λ _. t.work.items ≡ []))

  -- One call at s, which returned r and left t: the search goes on, `next` may be called again
  -- whatever it returned, `None` and an error end the search, and then each call returns `None`.
  pub record Steps (eq : ID → ID → Bool) (becomes : U → S → Type 0)
      (steps : S → Option T → S → Type 0) (can : S → Type 0) (left : S → Count)
      (s : DepthFirst T ID F N) (r : Option (Result T AllocError))
      (t : DepthFirst T ID F N) : Type 0 where
    pub walks : WalksOn eq becomes steps s r t
    pub again : IsWalkable ids lists (IsFiniteIterable becomes can left) t.id_fn t.neighbors_fn
    pub ends : MatchOption r (HasEnded t) (λ x. IfErr x (λ _. HasEnded t))
    pub ended : HasEnded s → IsNone r × HasEnded t
