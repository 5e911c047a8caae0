-- The effects of a write on a log of written objects, and the errors of a logged write.
-- Cited by contracts of public items: Appends, AppendsOnce, IsCommitFailure, IsLoggedError,
-- IsLogFailure, Keeps, Logs, MayFailToWrite, WithEntries, WithEntry.
use Rattle.std.specs.Prelude.{◌≡◌, ◌≢◌, ◌⊎◌, ℕ, List, [], ◌∷◌, ◌++◌, Contains, Option, Result}
use Rattle.jj_files.specs.declared.file_util.errors.SourceKind.TheVariants.{Other as OtherKind}
use Rattle.jj_backend.specs.Errors.{IsOtherOf}
use Rattle.jj_backend.specs.Objects.{FailsToSign, Object, Objects, commit_object, IsSigned}
use Rattle.jj_backend.specs.Records.{CommitValue}
use Rattle.jj_backend.specs.declared.backend.errors.BackendError.{BackendError}
use Rattle.jj_backend.specs.declared.backend.errors.BackendError.TheVariants.{Memory}
use Rattle.jj_backend.specs.declared.signing.SignError.{SignError}
use Rattle.jj_mirror.specs.Entries.{LogEntryValue, entry_of}
use Rattle.jj_mirror.specs.Objects.{HasObject, IsDigestTaken, IsParentless, IsReplayable}

-- these entries have property P if they contain the entry, else they do with the entry appended
abbrev pub WithEntry : (List LogEntryValue → Type 0) → List LogEntryValue → LogEntryValue → Type 0
WithEntry P entries entry = (Contains entries entry × P entries)
    ⊎ (¬ (Contains entries entry) × P (entries ++ entry ∷ []))

-- these entries have property P once those of the list that they lack are appended, each once
abbrev pub WithEntries : (List LogEntryValue → Type 0) → List LogEntryValue → List LogEntryValue
    → Type 0
WithEntries P entries [] = P entries
WithEntries P entries (entry ∷ more) = WithEntry (λ all. WithEntries P all more) entries entry

module _ {L : Type 0} (contains : L → List LogEntryValue → Type 0) (old new : L) where
  -- the new log contains the entries of the old one and then this entry
  abbrev pub Appends : LogEntryValue → Type 0
  Appends entry = (entries : List LogEntryValue) → contains old entries
      → contains new (entries ++ entry ∷ [])

  -- the new log contains the entries of the old one
  abbrev pub Keeps : Type 0
  Keeps = (entries : List LogEntryValue) → contains old entries → contains new entries

  -- if the backend stores the object, the log is unchanged, else the object's entry is appended
  abbrev pub AppendsOnce : Objects → Object → Type 0
  AppendsOnce objects object = (HasObject objects object × (new ≡ old))
      ⊎ (¬ (HasObject objects object) × Appends (entry_of object))

  -- The object's entry is appended, unless the backend stores the object, and replay takes it after
  -- those of the objects of the backend. No write appends in any other way.
  abbrev pub Logs : Objects → Object → Type 0
  Logs objects object = AppendsOnce objects object × IsReplayable objects object

  -- e is an error of logging an object, and the log keeps its entries: out of memory, an error of
  -- the log for an object that is not stored, or Other for a digest that a different object has
  abbrev pub IsLogFailure : (L → LogEntryValue → BackendError → Type 0) → Objects → Object
      → BackendError → Type 0
  IsLogFailure log_may_fail objects object e =
      Keeps × ((e ≡ Memory)
      ⊎ (¬ (HasObject objects object) × log_may_fail old (entry_of object) e)
      ⊎ (IsOtherOf OtherKind e × IsDigestTaken objects object))

  -- e is an error of a write of an object: of logging it, or out of memory once it is logged
  abbrev pub IsLoggedError : (L → LogEntryValue → BackendError → Type 0) → Objects → Object
      → BackendError → Type 0
  IsLoggedError log_may_fail objects object e =
      IsLogFailure log_may_fail objects object e ⊎ (Logs objects object × (e ≡ Memory))

  -- e is an error of a write of a commit: the commit has no parents, the signer failed, or memory
  -- ran out, and the log keeps its entries; or the commit has parents, and the error is one of a
  -- write of the stored form
  abbrev pub IsCommitFailure : {S : Type 0} → (L → LogEntryValue → BackendError → Type 0) → Objects
      → (S → List ℕ → Result (List ℕ) SignError → Type 0) → Option S → CommitValue → BackendError
      → Type 0
  IsCommitFailure log_may_fail objects may_sign signer contents e =
      (Keeps × ((e ≡ Memory) ⊎ (IsOtherOf OtherKind e × (contents.parents ≡ []))
      ⊎ ((contents.parents ≢ []) × FailsToSign may_sign signer contents e)))
      ⊎ ((contents.parents ≢ []) × ((stored : CommitValue)
      × IsSigned may_sign signer contents stored
      × IsLoggedError log_may_fail objects (commit_object stored) e))

-- The errors of a logged write: out of memory, those of the log for an object that is not stored,
-- and Other for a commit without parents or a digest that a different object has.
abbrev pub MayFailToWrite : (LogEntryValue → BackendError → Type 0) → Objects → Object
    → BackendError → Type 0
MayFailToWrite log_may_fail objects object e =
    (e ≡ Memory) ⊎ (¬ (HasObject objects object) × log_may_fail (entry_of object) e)
    ⊎ (IsOtherOf OtherKind e × (IsParentless object ⊎ IsDigestTaken objects object))
