-- Results of reads in a walk over a history, as a list and as items that may fail.
-- Machinery of private functions and fields.
use Rattle.std.specs.Prelude.{◌≡◌, ◌<◌, ◌^◌, ℕ, List, All, Result, map}
use Rattle.std.specs.Global.{Global}
use Rattle.std.specs.Iterator.Runs.{EveryRun, ItemsAre}
use Rattle.std.specs.Vec.{vec_len}
use Rattle.std.specs.Vec.Iter.{into_iter_items, into_iter_len, into_iter_steps}
use Rattle.std.specs.declared.result.Result.TheVariants.{Ok, Err}
use Rattle.std.specs.declared.vec.IntoIter.{IntoIter}
use Rattle.std.specs.declared.vec.Vec.{Vec}
use Rattle.jj_backend.specs.Objects.{Objects}
use Rattle.jj_backend.specs.declared.backend.errors.BackendError.{BackendError}
use Rattle.jj_dag.specs.ListOrError.{IteratesOver}
use Rattle.jj_dag.specs.declared.list_or_error.ListOrError.{ListOrError}
use Rattle.jj_store_walks.specs.ReadCommits.{IsErrorOfIds, IsStored, id_of}
use Rattle.jj_store_walks.specs.declared.order.HistoryError.{HistoryError}
use Rattle.jj_store_walks.specs.declared.order.HistoryError.TheVariants.{Read, Cycle}
use Rattle.jj_store_walks.specs.declared.read_commit.ReadCommit.{ReadCommit}

-- the iterator that a list becomes
abbrev pub vec_becomes : {X : Type 0} → Vec X Global → IntoIter X Global → Type 0
vec_becomes {X} v r = (into_iter_items r ≡ v.items) × (into_iter_len r ≡ vec_len v)
    × (into_iter_len r < 2 ^ 64)
    × EveryRun (into_iter_steps {X = X} {Z = Global}) (λ p. ItemsAre p (into_iter_items p.from))

module _ (may_fail : BackendError → Type 0) (store : Objects) where
  -- the stored commits of these ids, or an error of reading them
  abbrev pub ReadsHistory : List (List ℕ) → Result (Vec ReadCommit Global) HistoryError → Type 0
  ReadsHistory ids (Ok v) = (map id_of v.items ≡ ids) × All (IsStored store) v.items
  ReadsHistory ids (Err (Read e)) = IsErrorOfIds may_fail store ids e
  ReadsHistory ids (Err (Cycle id)) = ⊥

  -- the items of such a result
  abbrev pub AreItemsOf : List (List ℕ) → ListOrError (IntoIter ReadCommit Global) HistoryError
      → Type 0
  AreItemsOf ids items = (read : Result (Vec ReadCommit Global) HistoryError)
      × ReadsHistory ids read × IteratesOver vec_becomes read items
