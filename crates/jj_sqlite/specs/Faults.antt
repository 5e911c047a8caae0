-- The entry of a log that an error of opening names.
-- Cited by contracts of callers: HasFault.
use Rattle.std.specs.Prelude.{◌≡◌, ◌≢◌, ◌⊎◌, ⊤, List, Contains}
use Rattle.jj_files.specs.declared.file_util.errors.SourceKind.TheVariants.{Other as OtherKind}
use Rattle.jj_backend.specs.Errors.{IsOtherOf}
use Rattle.jj_backend.specs.Objects.{Object}
use Rattle.jj_trees.specs.MemoryObjects.{digest_length, new_backend, objects_of}
use Rattle.jj_mirror.specs.Entries.{LogEntryValue, entry_of}
use Rattle.jj_mirror.specs.Objects.{IsObject, IsParentless, Stores}
use Rattle.jj_mirror.specs.Replays.{HasBytesOf, HasEntry, Names}
use Rattle.jj_sqlite.specs.Rows.{HasDigest}
use Rattle.jj_sqlite.specs.declared.error.OpenError.{OpenError}
use Rattle.jj_sqlite.specs.declared.error.OpenError.TheVariants.{Memory, Sqlite, Foreign, Gap, Lost, WrongObject, UnknownKind, Malformed, Backend}

-- a different object of the same kind with the object's digest is initial or that of an entry
abbrev pub HasOtherObject : List LogEntryValue → Object → Type 0
HasOtherObject entries object = (other : Object)
    × ((entry_of other).kind ≡ (entry_of object).kind) × (other ≢ object)
    × (Stores (objects_of (new_backend digest_length)) (entry_of object).id other
    ⊎ HasEntry entries (entry_of object).id other)

-- The list has the fault that the error names: an entry whose id is not the digest of its object,
-- or whose bytes are those of no object, or a commit without parents, or two objects with one
-- digest. Out of memory, an error of SQLite and a database of another program name no entry. No
-- entry is missing or has an unknown kind, and the count is that of the entries.
abbrev pub HasFault : List LogEntryValue → OpenError → Type 0
HasFault entries Memory = ⊤
HasFault entries (Sqlite cause) = ⊤
HasFault entries Foreign = ⊤
HasFault entries (Gap count) = ⊥
HasFault entries (Lost count) = ⊥
HasFault entries (WrongObject kind id) =
    (entry : LogEntryValue) × Contains entries entry × Names entry kind id.items
    × ¬ (HasDigest entry)
HasFault entries (UnknownKind id) = ⊥
HasFault entries (Malformed kind id reason offset) =
    (entry : LogEntryValue) × Contains entries entry × Names entry kind id.items
    × ((object : Object) → IsObject object → ¬ (HasBytesOf entry object))
HasFault entries (Backend error) = IsOtherOf OtherKind error
    × ((entry : LogEntryValue) × Contains entries entry × ((object : Object) × IsObject object
    × HasBytesOf entry object × (IsParentless object ⊎ HasOtherObject entries object)))
