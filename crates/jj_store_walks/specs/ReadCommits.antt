-- Results of reads of the commits of a store.
-- Cited by contracts of public items: id_of.
use Rattle.std.specs.Prelude.{◌≡◌, ◌⊎◌, ℕ, List, Any, Some, Result}
use Rattle.std.specs.Global.{Global}
use Rattle.std.specs.declared.result.Result.TheVariants.{Ok, Err}
use Rattle.std.specs.declared.vec.Vec.{Vec}
use Rattle.jj_backend.specs.Objects.{IsRead, Objects}
use Rattle.jj_backend.specs.Records.{CommitValue}
use Rattle.jj_backend.specs.declared.backend.errors.BackendError.{BackendError}
use Rattle.jj_backend.specs.declared.backend.errors.BackendError.TheVariants.{Memory}
use Rattle.jj_store_walks.specs.declared.read_commit.ReadCommit.{ReadCommit}

-- the id of a commit that was read
abbrev pub id_of : ReadCommit → List ℕ
id_of c = c.id

-- the store has this commit under this id
abbrev pub IsStored : Objects → ReadCommit → Type 0
IsStored store c = store.commits c.id ≡ Some c.commit

module _ (may_fail : BackendError → Type 0) (store : Objects) where
  -- `read_commit` may return this error for this id: not found exactly where the store lacks it
  abbrev pub IsReadError : BackendError → List ℕ → Type 0
  IsReadError e id = IsRead {R = CommitValue} may_fail (store.commits id) (λ c. c) (Err e)

  -- `read_commit` may return this error for this id, or memory ran out
  abbrev pub IsReadFailure : BackendError → List ℕ → Type 0
  IsReadFailure e id = (e ≡ Memory) ⊎ IsReadError e id

  -- the error is out of memory, or one of reading one of these ids
  abbrev pub IsErrorOfIds : List (List ℕ) → BackendError → Type 0
  IsErrorOfIds ids e = (e ≡ Memory) ⊎ Any (IsReadError e) ids

  -- the parents of the commit that the store has, or an error of reading it
  abbrev pub AreParentIds : List ℕ → Result (Vec (List ℕ) Global) BackendError → Type 0
  AreParentIds id (Ok v) = (commit : CommitValue) × (store.commits id ≡ Some commit)
      × (v.items ≡ commit.parents)
  AreParentIds id (Err e) = IsReadError e id
