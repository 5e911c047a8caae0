-- Errors of the steps of writing a whole file.
use Rattle.std.proofs.Common.{◌≡◌, ℕ, List, [], Result, Ok, Err, IfErr, string_bytes, ap, inl, inr, subst}
use Rattle.std.specs.declared.io.Error.{Error}
use Rattle.jj_files.specs.PathErrors.{AddsPath}
use Rattle.jj_files.specs.declared.file_util.errors.PathError.{PathError}
use Rattle.jj_temp_files.specs.declared.temp_file.NamedTempFile.{NamedTempFile}
use Rattle.jj_temp_files.specs.Persisting.{SyncRelation, RenameRelation, RemoveRelation, PersistsFile}
use Rattle.jj_temp_files.specs.TempNames.{CreatesTempFile}
use Rattle.jj_temp_files.specs.WriteErrors.{CreateRelation, WriteRelation, WritesPieces, FailsToWrite, FailsToFill, IsWriteFileError}

-- writing to the temporary file failed
pub unwritten : {S F : Type 0} (may_write : WriteRelation S F) (may_sync : SyncRelation S F)
    (may_rename : RenameRelation S) (may_remove : RemoveRelation S) (temp after : NamedTempFile F)
    → after.path ≡ temp.path → (path bytes : List ℕ) (old between new : S) (error : Error)
    → FailsToWrite may_write old temp.file bytes error between after.file
    → (removed : Result (Unit {0}) Error)
    → may_remove between (string_bytes after.path) removed new
    → (result : Result (Unit {0}) PathError) → AddsPath path (Err error) result
    → IfErr result (λ fault. FailsToFill may_write may_sync may_rename may_remove temp path bytes old fault new)
unwritten may_write may_sync may_rename may_remove temp after same path bytes old between new error
    failed removed is_removed (Ok done) told = absurd told
unwritten may_write may_sync may_rename may_remove temp after same path bytes old between new error
    failed removed is_removed (Err fault) told =
    let P : List ℕ → Type 0 = λ p. may_remove between p removed new in
    (between, after.file, inl (error, failed, (removed, subst P (ap string_bytes same) is_removed), told))

-- all bytes were written, and persisting the file failed
pub unpersisted : {S F : Type 0} (may_write : WriteRelation S F) (may_sync : SyncRelation S F)
    (may_rename : RenameRelation S) (may_remove : RemoveRelation S) (temp after : NamedTempFile F)
    → after.path ≡ temp.path → (path bytes : List ℕ) (old between new : S)
    → WritesPieces may_write old temp.file bytes between after.file []
    → (result : Result (Unit {0}) PathError)
    → IfErr result (λ fault. PersistsFile may_sync may_rename may_remove after path between (Err fault) new)
    → IfErr result (λ fault. FailsToFill may_write may_sync may_rename may_remove temp path bytes old fault new)
unpersisted may_write may_sync may_rename may_remove temp after same path bytes old between new
    written (Ok done) persists = tt
unpersisted may_write may_sync may_rename may_remove temp after same path bytes old between new
    written (Err fault) persists =
    let P : _ → Type 0 = λ p. PersistsFile may_sync may_rename may_remove
    (record { file = after.file; path = p }) path between (Err fault) new in
    (between, after.file, inr (written, subst P same persists))

-- the temporary file was created, and filling it failed
pub unfilled : {S F : Type 0} (may_create : CreateRelation S F) (may_write : WriteRelation S F)
    (may_sync : SyncRelation S F) (may_rename : RenameRelation S) (may_remove : RemoveRelation S)
    (dir : List ℕ) (first last : ℕ) (path bytes : List ℕ) (temp : NamedTempFile F)
    (old created new : S) → CreatesTempFile may_create dir first old (Ok temp) last created
    → (result : Result (Unit {0}) PathError)
    → IfErr result (λ fault. FailsToFill may_write may_sync may_rename may_remove temp path bytes created fault new)
    → IfErr result (λ fault. IsWriteFileError may_create may_write may_sync may_rename may_remove
    dir first path bytes old fault last new)
unfilled may_create may_write may_sync may_rename may_remove dir first last path bytes temp old
    created new creates (Ok done) fails = tt
unfilled may_create may_write may_sync may_rename may_remove dir first last path bytes temp old
    created new creates (Err fault) fails = inr (temp, created, creates, fails)
