-- Graphs whose lists of neighbors may have failed items: an item is a node or an error.
-- Cited by contracts of public items through ClosureGraph, Collecting, Expanding,
-- jj_walks.DfsOkSteps, jj_walks.Expansions, jj_store_walks.Histories.
use Rattle.std.specs.Prelude.{◌≡◌, ℕ, ◌==◌, Bool, true, List, [], ◌∷◌, ◌++◌, map, reverse, Option, Result}
use Rattle.std.specs.declared.result.Result.TheVariants.{Ok, Err}
use Rattle.std.specs.Iterator.{Yields}
use Rattle.std.specs.List.{Contains, filter_map, list_any}
use Rattle.std.specs.Result.{result_ok}
use Rattle.jj_dag.specs.Graph.{Graph}
use Rattle.jj_dag.specs.Walk.{GraphModel, AreNodes}

-- each node's items, in their order
abbrev pub FallibleGraph : Type 0 → Type 0
FallibleGraph K = ℕ → List (Result ℕ K)

-- the items that did not fail
abbrev pub ok_items : {X K : Type 0} → List (Result X K) → List X
ok_items xs = filter_map result_ok xs

-- the graph of the items that did not fail
abbrev pub ok_graph : {K : Type 0} → FallibleGraph K → Graph
ok_graph items a = ok_items (items a)

-- `Preorder` with failed items, which are yielded in their order
pub data FalliblePreorder {K : Type 0} (g : FallibleGraph K)
    : (todo yielded out : List (Result ℕ K)) → Type 0 where
  ended : {yielded : List (Result ℕ K)} → FalliblePreorder g [] yielded yielded
  failed : {e : K} {todo yielded out : List (Result ℕ K)}
      → FalliblePreorder g todo (yielded ++ Err e ∷ []) out
      → FalliblePreorder g (Err e ∷ todo) yielded out
  passed : {a : ℕ} {todo yielded out : List (Result ℕ K)} → Contains yielded (Ok a)
      → FalliblePreorder g todo yielded out → FalliblePreorder g (Ok a ∷ todo) yielded out
  entered : {a : ℕ} {todo yielded below out : List (Result ℕ K)} → (Contains yielded (Ok a) → ⊥)
      → FalliblePreorder g (reverse (g a)) (yielded ++ Ok a ∷ []) below
      → FalliblePreorder g todo below out → FalliblePreorder g (Ok a ∷ todo) yielded out

-- over the starts too, the last one is walked first
abbrev pub IsFalliblePreorder : {K : Type 0} → FallibleGraph K → List (Result ℕ K)
    → List (Result ℕ K) → Type 0
IsFalliblePreorder g starts order = FalliblePreorder g (reverse starts) [] order

-- `into_iter` makes an iterator of this value that yields xs first
abbrev pub BeginsWith : {U S T : Type 0} → (U → S → Type 0) → (S → Option T → S → Type 0) → U
    → List T → Type 0
BeginsWith {U} {S} becomes steps value xs = (it : S) × becomes value it
    × ((t : S) × Yields steps it xs t)

-- the iterable yields some nodes first, and then this error
abbrev pub FailsAfterNodes : {U S T E : Type 0} → (U → S → Type 0)
    → (S → Option (Result T E) → S → Type 0) → U → E → Type 0
FailsAfterNodes {S = S} {T = T} becomes steps value error = (xs : List T)
    × ((it : S) × becomes value it × ((t : S) × Yields steps it (map Ok xs ++ Err error ∷ []) t))

module _ {T ID K : Type 0} (w : GraphModel T ID) (items : FallibleGraph K) where
  -- each number of an item in the list that did not fail is a node
  abbrev pub AreOkNodes : List (Result ℕ K) → Type 0
  AreOkNodes xs = AreNodes w (ok_items xs)

  -- A walk from these starts has yielded these items, the test holds of the ids of the nodes among
  -- them, and if a walk of `work` (the last of it first) continues them to a list, that is the list
  -- of the walk from the starts.
  pub record IsWalkingItems (starts : List (Result ℕ K)) (test : ID → Bool)
      (work yielded : List (Result ℕ K)) : Type 0 where
    pub nodes : AreOkNodes work
    pub knows : (i : ID) → w.is_node (w.id i) ≡ true
        → test i ≡ list_any (λ a. w.id i == a) (ok_items yielded)
    pub rest : (out : List (Result ℕ K)) → FalliblePreorder items (reverse work) yielded out
        → FalliblePreorder items (reverse starts) [] out
