-- Classes of backend errors.
-- Cited by contracts of public items: IsOtherOf, is_other, is_unsupported.
use Rattle.std.specs.Prelude.{◌≡◌, Bool, true, false}
use Rattle.jj_files.specs.Causes.{Cause}
use Rattle.jj_files.specs.declared.file_util.errors.SourceKind.{SourceKind}
use Rattle.jj_backend.specs.declared.backend.errors.BackendError.{BackendError}
use Rattle.jj_backend.specs.declared.backend.errors.BackendError.TheVariants.{ObjectNotFound, Other, Unsupported}

-- no object has the id
abbrev pub is_not_found : BackendError → Bool
is_not_found (ObjectNotFound object_type hash source) = true
is_not_found _ = false

-- an error with a source of the backend's own
abbrev pub is_other : BackendError → Bool
is_other (Other source) = true
is_other _ = false

-- the backend does not support the call
abbrev pub is_unsupported : BackendError → Bool
is_unsupported (Unsupported text) = true
is_unsupported _ = false

-- the error is Other, with a source of this kind
abbrev pub IsOtherOf : SourceKind → BackendError → Type 0
IsOtherOf kind e = (source : Cause) × (e ≡ Other source) × (source.kind ≡ kind)
