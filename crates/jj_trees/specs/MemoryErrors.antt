-- Errors of an in-memory backend: the object that a failed read names.
-- Cited by contracts of public items: NamesObject.
use Rattle.std.specs.Prelude.{◌≡◌, ⊤, ℕ, List, None, string_bytes}
use Rattle.jj_content.specs.Hex.{hex}
use Rattle.jj_backend.specs.declared.backend.errors.BackendError.{BackendError}
use Rattle.jj_backend.specs.declared.backend.errors.BackendError.TheVariants.{ObjectNotFound}

-- an ObjectNotFound error has this object type, this id in hexadecimal, and no source
abbrev pub NamesObject : List ℕ → List ℕ → BackendError → Type 0
NamesObject type_name id (ObjectNotFound object_type hash source) =
    (string_bytes object_type ≡ type_name) × (string_bytes hash ≡ hex id) × (source ≡ None)
NamesObject type_name id _ = ⊤
