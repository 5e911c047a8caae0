-- Results of reading several commits, in the order of their ids.
-- Machinery of private functions and fields.
use Rattle.std.specs.Prelude.{◌≡◌, ◌⊎◌, ◌++◌, ℕ, List, [], ◌∷◌, Result, if◌then◌else◌}
use Rattle.std.specs.declared.result.Result.TheVariants.{Ok, Err}
use Rattle.jj_backend.specs.Objects.{Objects}
use Rattle.jj_backend.specs.declared.backend.errors.BackendError.{BackendError}
use Rattle.jj_backend.specs.declared.backend.errors.BackendError.TheVariants.{Memory}
use Rattle.jj_store_walks.specs.ReadCommits.{IsReadFailure, IsStored}
use Rattle.jj_store_walks.specs.declared.read_commit.ReadCommit.{ReadCommit}
use Rattle.jj_store_walks.specs.declared.reads.Reads.{Reads}

abbrev pub reads_left : Reads → List (Result ReadCommit BackendError)
reads_left s = s.results.items ++ (if s.ran_out then Err Memory ∷ [] else [])

module _ (may_fail : BackendError → Type 0) (store : Objects) where
  -- the commit that the store has under this id, or an error of reading it
  abbrev pub IsReadOf : List ℕ → Result ReadCommit BackendError → Type 0
  IsReadOf id (Ok c) = (c.id ≡ id) × IsStored store c
  IsReadOf id (Err e) = IsReadFailure may_fail store e id

  -- the results of reading these ids, in their order; an allocation failure may be the last one
  abbrev pub AreReads : List (List ℕ) → List (Result ReadCommit BackendError) → Type 0
  AreReads [] [] = Unit {0}
  AreReads [] (item ∷ items) = ⊥
  AreReads (id ∷ ids) [] = ⊥
  AreReads (id ∷ ids) (item ∷ items) = IsReadOf id item
      × (AreReads ids items ⊎ ((items ≡ []) × (item ≡ Err Memory)))
