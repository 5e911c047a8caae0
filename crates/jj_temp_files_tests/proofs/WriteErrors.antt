-- The path of an error of writing a whole file.
use Rattle.std.proofs.Common.{ℕ, List, Result, Ok, Err, IfErr, inl, inr, subst, sym}
use Rattle.std.specs.declared.io.Error.{Error}
use Rattle.jj_files.specs.PathErrors.{IsAtPath}
use Rattle.jj_files.specs.declared.file_util.errors.PathError.{PathError}
use Rattle.jj_files.specs.declared.file_util.errors.PathError.TheVariants.{Invalid, Memory}
use Rattle.jj_temp_files.specs.Persisting.{SyncRelation, RenameRelation, RemoveRelation}
use Rattle.jj_temp_files.specs.TempNames.{numbered_path}
use Rattle.jj_temp_files.specs.WriteErrors.{CreateRelation, WriteRelation, IsWriteFileError}
use Rattle.jj_temp_files_tests.specs.Objects.{IsAtPathOrTemp}

-- an error at the path
at_path : (dir path : List ℕ) (error : Error) (fault : PathError) → IsAtPath path error fault
    → IsAtPathOrTemp dir path fault
at_path dir path error (Invalid at cause) told = inl told.0
at_path dir path error Memory told = tt

-- an error at the path of a temporary file
at_temp : (dir path : List ℕ) (number : ℕ) (error : Error) (fault : PathError)
    → IsAtPath (numbered_path dir number) error fault → IsAtPathOrTemp dir path fault
at_temp dir path number error (Invalid at cause) told = inr (number, told.0)
at_temp dir path number error Memory told = tt

-- an error of writing a whole file is at one of these paths
at_path_or_temp : {S F : Type 0} (may_create : CreateRelation S F) (may_write : WriteRelation S F)
    (may_sync : SyncRelation S F) (may_rename : RenameRelation S) (may_remove : RemoveRelation S)
    (dir : List ℕ) (first last : ℕ) (path bytes : List ℕ) (old new : S) (fault : PathError)
    → IsWriteFileError may_create may_write may_sync may_rename may_remove dir first path bytes old
    fault last new → IsAtPathOrTemp dir path fault
at_path_or_temp may_create may_write may_sync may_rename may_remove dir first last path bytes old
    new fault (inl (count, number, between, before, inl (error, failed, taken, told, next))) =
    at_temp dir path number error fault told
at_path_or_temp may_create may_write may_sync may_rename may_remove dir first last path bytes old
    new fault (inl (count, number, between, before, inr (memory, same, next))) =
    let P : PathError → Type 0 = λ f. IsAtPathOrTemp dir path f in subst P (sym memory) tt
at_path_or_temp may_create may_write may_sync may_rename may_remove dir first last path bytes old
    new fault (inr (temp, created, creates, (between, next, inl (error, failed, gone, told)))) =
    at_path dir path error fault told
at_path_or_temp {F = F} may_create may_write may_sync may_rename may_remove dir first last path bytes old
    new fault (inr (temp, created, creates, (between, next, inr (written, (Ok done, there, syncs, (is, same)))))) =
    let P : Result F PathError → Type 0 = λ r. IfErr r (λ fault. ⊥) in
    absurd (subst P (sym is) tt)
at_path_or_temp may_create may_write may_sync may_rename may_remove dir first last path bytes old
    new fault (inr (temp, created, creates, (between, next, inr (written, (Err error, there, syncs, (gone, told)))))) =
    at_path dir path error fault told

-- if writing a whole file fails, the error is at one of these paths
pub error_at_path_or_temp : {S F : Type 0} (may_create : CreateRelation S F)
    (may_write : WriteRelation S F) (may_sync : SyncRelation S F) (may_rename : RenameRelation S)
    (may_remove : RemoveRelation S) (dir : List ℕ) (first last : ℕ) (path bytes : List ℕ)
    (old new : S) (result : Result (Unit {0}) PathError)
    → IfErr result (λ fault. IsWriteFileError may_create may_write may_sync may_rename may_remove
    dir first path bytes old fault last new)
    → IfErr result (λ fault. IsAtPathOrTemp dir path fault)
error_at_path_or_temp may_create may_write may_sync may_rename may_remove dir first last path bytes
    old new (Ok done) fails = tt
error_at_path_or_temp may_create may_write may_sync may_rename may_remove dir first last path bytes
    old new (Err fault) fails =
    at_path_or_temp may_create may_write may_sync may_rename may_remove dir first last path bytes old
    new fault fails
