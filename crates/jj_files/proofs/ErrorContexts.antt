-- The result before a path was added to its error.
use Rattle.std.proofs.Common.{◌≡◌, ℕ, List, Result, Ok, Err, ap, refl}
use Rattle.std.specs.declared.io.Error.{Error}
use Rattle.jj_files.specs.PathErrors.{AddsPath, IsAtPath}
use Rattle.jj_files.specs.declared.file_util.errors.PathError.{PathError}

pub error_before : {T : Type 0} (path : List ℕ) (outcome : Result T Error) (fault : PathError) → AddsPath path outcome (Err fault) → (error : Error) × (outcome ≡ Err error) × IsAtPath path error fault
error_before path (Ok value) fault h = cc h
error_before path (Err error) fault h = (error, refl, h)

pub value_before : {T : Type 0} (path : List ℕ) (outcome : Result T Error) (value : T) → AddsPath path outcome (Ok value) → outcome ≡ Ok value
value_before path (Ok other) value h = let e : other ≡ value = cc h in ap Ok e
value_before path (Err error) value h = absurd h
