-- Persisting, closing and unlinking a temporary file.
-- Cited by contracts of public items: PersistsFile, RenamesFile, RemovesFile, UnlinksFile.
use Rattle.std.specs.Prelude.{◌≡◌, ℕ, List, Result, Ok, Err, MatchResult, IsErrAnd, string_bytes}
use Rattle.std.specs.declared.io.Error.{Error}
use Rattle.jj_files.specs.PathErrors.{AddsPath, IsAtPath}
use Rattle.jj_files.specs.declared.file_util.errors.PathError.{PathError}
use Rattle.jj_temp_files.specs.declared.temp_file.NamedTempFile.{NamedTempFile}

-- the relation of removing: state before, path, result, state after
abbrev pub RemoveRelation : Type 0 → Type 1
RemoveRelation S = S → List ℕ → Result (Unit {0}) Error → S → Type 0

-- the relation of renaming: state before, old and new path, result, state after
abbrev pub RenameRelation : Type 0 → Type 1
RenameRelation S = S → List ℕ → List ℕ → Result (Unit {0}) Error → S → Type 0

-- the relation of syncing: state before, open file, result, state after
abbrev pub SyncRelation : Type 0 → Type 0 → Type 1
SyncRelation S F = S → F → Result (Unit {0}) Error → S → Type 0

-- the file was removed, or the error of that with its path
abbrev pub RemovesFile : {S : Type 0} → RemoveRelation S → List ℕ → S → Result (Unit {0}) PathError
    → S → Type 0
RemovesFile may_remove path old result new = (removed : Result (Unit {0}) Error)
    × may_remove old path removed new × AddsPath path removed result

-- the temporary path was removed, and the file is returned open; or the error of that with its path
abbrev pub UnlinksFile : {S F : Type 0} → RemoveRelation S → NamedTempFile F → S
    → Result F PathError → S → Type 0
UnlinksFile may_remove temp old result new = (removed : Result (Unit {0}) Error)
    × may_remove old (string_bytes temp.path) removed new
    × MatchResult removed (λ done. result ≡ Ok temp.file)
    (λ error. IsErrAnd result (IsAtPath (string_bytes temp.path) error))

-- After these calls: the file is returned open if they succeeded. If not, it was removed, and their
-- error is returned with the new path.
abbrev pub ReturnsOrRemoves : {S F : Type 0} → RemoveRelation S → NamedTempFile F → List ℕ
    → Result (Unit {0}) Error → S → Result F PathError → S → Type 0
ReturnsOrRemoves may_remove temp new_path outcome between result new =
    MatchResult outcome (λ done. (result ≡ Ok temp.file) × (new ≡ between))
    (λ error. ((removed : Result (Unit {0}) Error)
    × may_remove between (string_bytes temp.path) removed new)
    × IsErrAnd result (IsAtPath new_path error))

-- the file was renamed, and is returned open or removed
abbrev pub RenamesFile : {S F : Type 0} → RenameRelation S → RemoveRelation S → NamedTempFile F
    → List ℕ → S → Result F PathError → S → Type 0
RenamesFile {S} may_rename may_remove temp new_path old result new =
    (renamed : Result (Unit {0}) Error) × (between : S)
    × may_rename old (string_bytes temp.path) new_path renamed between
    × ReturnsOrRemoves may_remove temp new_path renamed between result new

-- the data of the file was synced, and then the path renamed, unless syncing failed
abbrev pub SyncsAndRenames : {S F : Type 0} → SyncRelation S F → RenameRelation S → F → List ℕ
    → List ℕ → S → Result (Unit {0}) Error → S → Type 0
SyncsAndRenames {S} may_sync may_rename file from to old result new =
    (synced : Result (Unit {0}) Error) × (between : S) × may_sync old file synced between
    × MatchResult synced (λ done. may_rename between from to result new)
    (λ error. (result ≡ Err error) × (new ≡ between))

-- the data of the file was synced, then the path renamed, and the file is returned open or removed
abbrev pub PersistsFile : {S F : Type 0} → SyncRelation S F → RenameRelation S → RemoveRelation S
    → NamedTempFile F → List ℕ → S → Result F PathError → S → Type 0
PersistsFile {S} may_sync may_rename may_remove temp new_path old result new =
    (outcome : Result (Unit {0}) Error) × (between : S)
    × SyncsAndRenames may_sync may_rename temp.file (string_bytes temp.path) new_path
    old outcome between
    × ReturnsOrRemoves may_remove temp new_path outcome between result new
