-- Errors of writing a whole file.
-- Cited by contracts of public items: IsWriteFileError.
use Rattle.std.specs.Prelude.{◌≡◌, ◌≢◌, ◌⊎◌, ℕ, List, [], drop, Result, Ok, Err, string_bytes}
use Rattle.std.specs.declared.io.Error.{Error}
use Rattle.std.specs.declared.io.ErrorKind.TheVariants.{WriteZero}
use Rattle.std.specs.IoError.{error_kind}
use Rattle.jj_files.specs.PathErrors.{IsAtPath}
use Rattle.jj_files.specs.declared.file_util.errors.PathError.{PathError}
use Rattle.jj_temp_files.specs.declared.temp_file.NamedTempFile.{NamedTempFile}
use Rattle.jj_temp_files.specs.Persisting.{PersistsFile, RemoveRelation, RenameRelation, SyncRelation}
use Rattle.jj_temp_files.specs.TempNames.{CreatesTempFile}

-- the relation of creating: state before, path, result, state after
abbrev pub CreateRelation : Type 0 → Type 0 → Type 1
CreateRelation S F = S → List ℕ → Result F Error → S → Type 0

-- the relation of writing: states before, bytes, result, states after
abbrev pub WriteRelation : Type 0 → Type 0 → Type 1
WriteRelation S F = S → F → List ℕ → Result ℕ Error → S → F → Type 0

-- Writes to an open file succeeded, of at least one byte each, and these bytes are left.
pub data WritesPieces {S F : Type 0} (may_write : WriteRelation S F) (old : S) (file : F)
    (bytes : List ℕ) : S → F → List ℕ → Type 0 where
  no_piece : WritesPieces may_write old file bytes old file bytes
  one_more : {between new : S} {middle next : F} {piece : List ℕ} {count : ℕ}
      → WritesPieces may_write old file bytes between middle piece
      → may_write between middle piece (Ok count) new next → count ≢ 0
      → WritesPieces may_write old file bytes new next (drop count piece)

-- the error of a write, or that it wrote nothing
abbrev pub IsWriteError : Result ℕ Error → Error → Type 0
IsWriteError (Ok count) error = (count ≡ 0) × (error_kind error ≡ WriteZero)
IsWriteError (Err cause) error = error ≡ cause

-- a write of some of the bytes failed, or wrote nothing, with this error
abbrev pub FailsToWrite : {S F : Type 0} → WriteRelation S F → S → F → List ℕ → Error → S → F
    → Type 0
FailsToWrite {S} {F} may_write old file bytes error new next =
    (between : S) × (middle : F) × (rest : List ℕ) × (outcome : Result ℕ Error)
    × WritesPieces may_write old file bytes between middle rest × (rest ≢ [])
    × may_write between middle rest outcome new next × IsWriteError outcome error

-- Writing the bytes to a temporary file failed, removing it was tried, and the error has the path;
-- or all were written, and persisting the file failed.
abbrev pub FailsToFill : {S F : Type 0} → WriteRelation S F → SyncRelation S F → RenameRelation S
    → RemoveRelation S → NamedTempFile F → List ℕ → List ℕ → S → PathError → S → Type 0
FailsToFill {S} {F} may_write may_sync may_rename may_remove temp path bytes old fault new =
    (between : S) × (next : F)
    × (((error : Error) × FailsToWrite may_write old temp.file bytes error between next
    × ((removed : Result (Unit {0}) Error)
    × may_remove between (string_bytes temp.path) removed new)
    × IsAtPath path error fault)
    ⊎ (WritesPieces may_write old temp.file bytes between next []
    × PersistsFile may_sync may_rename may_remove (record { file = next; path = temp.path }) path
    between (Err fault) new))

-- The error of creating a temporary file in the directory; or of writing the bytes to it or
-- persisting it, with the path.
abbrev pub IsWriteFileError : {S F : Type 0} → CreateRelation S F → WriteRelation S F
    → SyncRelation S F → RenameRelation S → RemoveRelation S → List ℕ → ℕ → List ℕ → List ℕ → S
    → PathError → ℕ → S → Type 0
IsWriteFileError {S} {F} may_create may_write may_sync may_rename may_remove dir first path bytes
    old fault last new =
    CreatesTempFile may_create dir first old (Err fault) last new
    ⊎ ((temp : NamedTempFile F) × (created : S)
    × CreatesTempFile may_create dir first old (Ok temp) last created
    × FailsToFill may_write may_sync may_rename may_remove temp path bytes created fault new)
