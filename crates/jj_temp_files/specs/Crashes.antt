-- The outcomes at a path of a crash at any moment of a call.
-- Cited by contracts of public items: Changes, Untouched, LeavesOldOr, AddsWritten,
-- IsWholeOrAbsent, ReplacesFile.
use Rattle.std.specs.Prelude.{◌≡◌, ◌⊎◌, ◌≤◌, ◌++◌, ⊤, ℕ, List, [], Option, Some, None, Result, Ok, Err, MatchResult, string_bytes, take}
use Rattle.std.specs.declared.io.Error.{Error}
use Rattle.jj_files.specs.declared.file_util.errors.PathError.{PathError}
use Rattle.jj_temp_files.specs.declared.temp_file.NamedTempFile.{NamedTempFile}

-- an outcome at a path of a crash since a moment
abbrev pub LeftSince : Type 0 → Type 1
LeftSince S = S → ℕ → List ℕ → Option (List ℕ) → Type 0

-- Time goes on: an outcome of a crash since a moment was one before, or is one of these.
pub record Changes {S : Type 0} (moment : S → ℕ) (left_since : LeftSince S) (old new : S)
    (path : List ℕ) (leaves : Option (List ℕ) → Type 0) : Type 0 where
  pub later : moment old ≤ moment new
  pub each : (since : ℕ) (left : Option (List ℕ)) → since ≤ moment old
      → left_since new since path left → left_since old since path left ⊎ leaves left

-- time goes on, and a crash leaves nothing else at the path
abbrev pub Unchanged : {S : Type 0} → (S → ℕ) → LeftSince S → S → S → List ℕ → Type 0
Unchanged moment left_since old new path = Changes moment left_since old new path (λ left. ⊥)

-- The file at the path has not changed, and a crash leaves nothing else there. `contents` is the
-- file at a path: its bytes, or none.
pub record Untouched {S : Type 0} (moment : S → ℕ) (left_since : LeftSince S)
    (contents : S → List ℕ → Option (List ℕ)) (old new : S) (path : List ℕ) : Type 0 where
  pub crash : Unchanged moment left_since old new path
  pub now : contents new path ≡ contents old path

-- a crash at any moment since leaves at the path an outcome of one before, or these bytes
abbrev pub LeavesOldOr : {S : Type 0} → (S → ℕ) → LeftSince S → (Option (List ℕ) → Type 0) → S → S
    → List ℕ → List ℕ → Type 0
LeavesOldOr moment left_since before old new path bytes = (left : Option (List ℕ))
    → left_since new (moment old) path left → before left ⊎ (left ≡ Some bytes)

-- a prefix of the piece was appended; after an error, the content is arbitrary
abbrev pub AddsWritten : List ℕ → List ℕ → Result ℕ Error → List ℕ → Type 0
AddsWritten old piece (Ok count) new = new ≡ old ++ take count piece
AddsWritten old piece (Err error) new = ⊤

-- no file, or one with these bytes
abbrev pub IsWholeOrAbsent : List ℕ → Option (List ℕ) → Type 0
IsWholeOrAbsent bytes left = (left ≡ None) ⊎ (left ≡ Some bytes)

-- the new file is there, or after an error the old or the new one
abbrev pub ReplacesFile : Option (List ℕ) → Option (List ℕ) → Result (Unit {0}) PathError
    → Option (List ℕ) → Type 0
ReplacesFile old written result new = MatchResult result (λ done. new ≡ written)
    (λ fault. (new ≡ old) ⊎ (new ≡ written))

-- the temporary file was created at its path, and is empty
pub record IsEmptyTempFile {S F : Type 0} (created_at written : F → List ℕ)
    (contents : S → List ℕ → Option (List ℕ)) (files : S) (temp : NamedTempFile F) : Type 0 where
  pub path : created_at temp.file ≡ string_bytes temp.path
  pub empty : written temp.file ≡ []
  pub there : contents files (string_bytes temp.path) ≡ Some []
