-- Errors of reads and writes.
-- Cited by contracts of public items: IsBackendFailure, IsWriteError.
use Rattle.std.specs.Prelude.{◌≡◌, ◌⊎◌, true}
use Rattle.jj_backend.specs.Errors.{is_other}
use Rattle.jj_backend.specs.Objects.{Object}
use Rattle.jj_backend.specs.declared.backend.errors.BackendError.{BackendError}
use Rattle.jj_backend.specs.declared.backend.errors.BackendError.TheVariants.{Memory}

-- out of memory, or the backend's Other
abbrev pub IsWriteError : BackendError → Type 0
IsWriteError e = (e ≡ Memory) ⊎ (is_other e ≡ true)

-- an error that a read or a write of a backend may return, in some state of it
abbrev pub IsBackendFailure : {B : Type 0} → (B → BackendError → Type 0)
    → (B → Object → BackendError → Type 0) → BackendError → Type 0
IsBackendFailure {B} may_fail may_fail_to_write e = (backend : B)
    × (may_fail backend e ⊎ ((object : Object) × may_fail_to_write backend object e))
