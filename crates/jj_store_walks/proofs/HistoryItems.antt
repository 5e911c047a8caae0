-- Closures that return the parents of a commit as items implement each history of the store.
use Rattle.std.proofs.Common.{◌≡◌, ℕ, List, map, Result, Ok, Err, sym, subst}
use Rattle.std.specs.Prelude.{All}
use Rattle.std.specs.Str.{bytes_eq}
use Rattle.std.specs.Fn.{Called, Mut, Shared}
use Rattle.std.specs.Global.{Global}
use Rattle.std.specs.Vec.Iter.{into_iter_steps}
use Rattle.std.specs.declared.alloc.AllocError.{AllocError}
use Rattle.std.specs.declared.vec.IntoIter.{IntoIter}
use Rattle.std.specs.declared.vec.Vec.{Vec}
use Rattle.std.proofs.lemmas.Fn.{always_returns_same}
use denote.Ref.{Bor}
use Rattle.jj_backend.specs.Objects.{Objects}
use Rattle.jj_backend.specs.declared.backend.errors.BackendError.{BackendError}
use Rattle.jj_dag.specs.ClosureGraph.{Implements, MayReturn, ReturnsId, YieldsOk}
use Rattle.jj_dag.specs.FallibleGraphs.{FailsAfterNodes}
use Rattle.jj_dag.specs.Graph.{ReachedFrom, ReachesCycle}
use Rattle.jj_dag.specs.ListOrError.{StepsListed}
use Rattle.jj_dag.specs.Walk.{DrainsTo}
use Rattle.jj_dag.specs.declared.list_or_error.ListOrError.{ListOrError}
use Rattle.jj_dag.proofs.ClosureGraphs.{may_return_says}
use Rattle.jj_dag.proofs.ListNumbers.{list_of_number, list_of_number-number, number}
use Rattle.jj_dag.proofs.ListsOrErrors.{error_yielded, list_yielded}
use Rattle.jj_dag.proofs.NodeGraphs.{cycle_node}
use Rattle.jj_store_walks.specs.Histories.{Completes, InEachHistory, IsHistoryError, Parents}
use Rattle.jj_store_walks.specs.HistoryItems.{AreItemsOf, ReadsHistory, vec_becomes}
use Rattle.jj_store_walks.specs.ReadCommits.{IsStored, id_of}
use Rattle.jj_store_walks.specs.declared.order.HistoryError.{HistoryError}
use Rattle.jj_store_walks.specs.declared.order.HistoryError.TheVariants.{Read, Cycle}
use Rattle.jj_store_walks.specs.declared.read_commit.ReadCommit.{ReadCommit}
use Rattle.jj_walks.proofs.Callers.{vec_drained}
use Rattle.jj_store_walks.proofs.Commits.{error_at, error_below, id_graph, implements_commits, listed_from, node_of, node_reached, walk_of}

abbrev pub Items : Type 0
Items = ListOrError (IntoIter ReadCommit Global) HistoryError

abbrev pub YieldsItems : Items → List ReadCommit → Type 0
YieldsItems r xs = DrainsTo (λ v k. k ≡ v) (StepsListed into_iter_steps) r (map (λ x. Ok x) xs)

abbrev pub FailsWith : Items → HistoryError → Type 0
FailsWith r e = FailsAfterNodes (λ v k. k ≡ v) (StepsListed into_iter_steps) r e

module _ (may_fail : BackendError → Type 0) (store : Objects) where
  -- the commits that were read
  abbrev pub AreRead : List (List ℕ) → List ReadCommit → Type 0
  AreRead ids xs = (v : Vec ReadCommit Global) × (xs ≡ v.items) × (map id_of v.items ≡ ids) × All (IsStored store) v.items

  -- the yielded items were read
  pub items_read : (ids : List (List ℕ)) (s : Items) → AreItemsOf may_fail store ids s → (xs : List ReadCommit) → YieldsItems s xs → AreRead ids xs
  items_read ids s (read, reads, stands) xs d = of_list read reads (list_yielded vec_becomes into_iter_steps read s stands xs d)
    where
      of_list : (r : Result (Vec ReadCommit Global) HistoryError) → ReadsHistory may_fail store ids r → YieldsOk (DrainsTo vec_becomes into_iter_steps) r xs → AreRead ids xs
      of_list (Ok v) (same, stored) (it, begins, drains) = (v, vec_drained v xs (it, (begins.0, begins.1), drains), same, stored)
      of_list (Err e) reads d = absurd d

  -- and their error is one of reading
  pub items_error : (ids : List (List ℕ)) (s : Items) → AreItemsOf may_fail store ids s → (e : HistoryError) → FailsWith s e → ReadsHistory may_fail store ids (Err e)
  items_error ids s (read, reads, stands) e fails = subst (ReadsHistory may_fail store ids) (error_yielded vec_becomes into_iter_steps read s stands e fails) reads

  pub implements_items : {F N : Type 0} (ids : Shared F (Bor ReadCommit × Unit {0}) (Result (List ℕ) AllocError)) (lists : Mut N (Bor ReadCommit × Unit {0}) Items) (id_fn : F) (neighbors_fn : N)
      → ((x : ReadCommit) (i : List ℕ) → ReturnsId ids id_fn x i → i ≡ x.id)
      → ((a : Bor ReadCommit × Unit {0}) (r : Items) (f : N) → Called lists neighbors_fn a r f → AreItemsOf may_fail store a.0.now.commit.parents r × (f ≡ neighbors_fn))
      → (parents : Parents) → Completes store parents → Implements (walk_of may_fail store parents) bytes_eq ids lists YieldsItems id_fn neighbors_fn
  implements_items ids lists id_fn neighbors_fn same_id reads parents complete =
      implements_commits may_fail store ids lists YieldsItems id_fn neighbors_fn parents same_id (λ a r f h.
      let k = reads a r f h in (
        λ xs here d.
            let q = items_read a.0.now.commit.parents r k.0 xs d in
            listed_from may_fail store parents complete a.0.now here q.0 xs q.1 q.2 q.3,
        k.1,
      ))

  -- an error of the items that the closure may return is one of reading the parents
  pub may_read_items : {N : Type 0} (lists : Mut N (Bor ReadCommit × Unit {0}) Items) (neighbors_fn : N)
      → ((a : Bor ReadCommit × Unit {0}) (r : Items) (f : N) → Called lists neighbors_fn a r f → AreItemsOf may_fail store a.0.now.commit.parents r × (f ≡ neighbors_fn))
      → (x : ReadCommit) (e : HistoryError) → ((r : Items) × MayReturn lists neighbors_fn x r × FailsWith r e) → ReadsHistory may_fail store x.commit.parents (Err e)
  may_read_items lists neighbors_fn reads x e (r, may, fails) =
      items_error x.commit.parents r (may_return_says lists (λ c s. AreItemsOf may_fail store c.commit.parents s) (always_returns_same lists _ neighbors_fn reads) may) e fails

  -- an error of reading the ids
  pub history_error_at : (ids : List (List ℕ)) (e : HistoryError) → ReadsHistory may_fail store ids (Err e) → IsHistoryError store may_fail ids e
  history_error_at ids (Read e) reads = error_at may_fail store ids ids e (λ id inside. inside) reads
  history_error_at ids (Cycle id) reads = absurd reads

  -- an error of reading the parents of an ancestor
  pub history_error_below : (ids : List (List ℕ)) (x : ReadCommit) (e : HistoryError) → InEachHistory store (λ parents. ReachedFrom (id_graph parents) (map number ids) (node_of may_fail store x))
      → ReadsHistory may_fail store x.commit.parents (Err e) → IsHistoryError store may_fail ids e
  history_error_below ids x (Read e) reached reads = error_below may_fail store ids x e reached reads
  history_error_below ids x (Cycle id) reached reads = absurd reads

  -- the error of an ancestor where there is a cycle
  pub cycle_error : (ids : List (List ℕ)) (x : ReadCommit) (e : HistoryError) → e ≡ Cycle x.id
      → InEachHistory store (λ parents. ReachedFrom (id_graph parents) (map number ids) (node_of may_fail store x) × ReachesCycle (id_graph parents) (map number ids))
      → IsHistoryError store may_fail ids e
  cycle_error ids x e is reached = subst (IsHistoryError store may_fail ids) (sym is) (λ parents complete.
      let k = reached parents complete in
      ((node_reached may_fail store parents ids x k.0).0, cycle_node parents number list_of_number list_of_number-number ids k.1))
