-- The errors of failing reads.
-- Cited by contracts of public items: IsReadFailure.
use Rattle.std.specs.Prelude.{◌≡◌, ◌⊎◌}
use Rattle.jj_files.specs.declared.file_util.errors.SourceKind.TheVariants.{Io}
use Rattle.jj_backend.specs.Errors.{IsOtherOf}
use Rattle.jj_backend.specs.declared.backend.errors.BackendError.{BackendError}
use Rattle.jj_backend.specs.declared.backend.errors.BackendError.TheVariants.{Memory}

-- out of memory, or an error of kind Io
abbrev pub IsReadFailure : BackendError → Type 0
IsReadFailure e = (e ≡ Memory) ⊎ IsOtherOf Io e
