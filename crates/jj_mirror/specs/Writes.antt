-- The effect of writing the object of an entry to an in-memory backend, and the errors of its
-- steps.
use Rattle.std.specs.Prelude.{◌≡◌, ◌≢◌, ⊤, ℕ, List}
use Rattle.jj_backend.specs.Objects.{Object, file_object, symlink_object, copy_object, tree_object, commit_object, AddsFile, AddsSymlink, AddsCopy, AddsTree, AddsCommit}
use Rattle.jj_decode.specs.declared.error.DecodeError.{DecodeError}
use Rattle.jj_decode.specs.declared.error.DecodeError.TheVariants as decode
use Rattle.jj_trees.specs.MemoryObjects.{MemoryBackendValue, objects_of}
use Rattle.jj_mirror.specs.Entries.{LogEntryValue, entry_of}
use Rattle.jj_mirror.specs.Objects.{IsObject, IsParentless}
use Rattle.jj_mirror.specs.Replays.{Names}
use Rattle.jj_mirror.specs.declared.error.ReplayError.{ReplayError}
use Rattle.jj_mirror.specs.declared.error.ReplayError.TheVariants.{Memory, Malformed, WrongObject, Backend}

-- the new backend is the old one with the object under the id
abbrev pub Adds : MemoryBackendValue → MemoryBackendValue → List ℕ → Object → Type 0
Adds old new id (file_object contents) = AddsFile (objects_of old) (objects_of new) id contents
    × (new ≡ record old { files = new.files })
Adds old new id (symlink_object target) = AddsSymlink (objects_of old) (objects_of new) id target
    × (new ≡ record old { symlinks = new.symlinks })
Adds old new id (copy_object history) = AddsCopy (objects_of old) (objects_of new) id history
    × (new ≡ record old { copies = new.copies })
Adds old new id (tree_object entries) = AddsTree (objects_of old) (objects_of new) id entries
    × (new ≡ record old { trees = new.trees })
Adds old new id (commit_object c) = AddsCommit (objects_of old) (objects_of new) id c
    × (new ≡ record old { commits = new.commits })

-- the new backend is the old one with the object of the entry, which is no commit without parents
abbrev pub AddsEntry : MemoryBackendValue → MemoryBackendValue → LogEntryValue → Type 0
AddsEntry old new entry = (object : Object) × IsObject object × ¬ (IsParentless object)
    × (entry ≡ entry_of object) × Adds old new entry.id object

-- a malformed entry, named by the error, or out of memory
abbrev pub NamesEntry : LogEntryValue → ReplayError → Type 0
NamesEntry entry Memory = ⊤
NamesEntry entry (Malformed kind id reason offset) = Names entry kind id.items
NamesEntry entry (WrongObject kind id) = ⊥
NamesEntry entry (Backend error) = ⊥

-- the reason and the offset of a malformed entry are those of an error of decoding
abbrev pub HasCause : (DecodeError → Type 0) → ReplayError → Type 0
HasCause errors Memory = ⊤
HasCause errors (Malformed kind id reason offset) = errors (decode.Malformed reason offset)
HasCause errors (WrongObject kind id) = ⊤
HasCause errors (Backend error) = ⊤

-- no value has the bytes of the entry as its content, or memory ran out
abbrev pub IsDecodeError : {X : Type 0} → (X → Type 0) → (X → List ℕ) → LogEntryValue → ReplayError
    → Type 0
IsDecodeError {X} is_value content entry e =
    NamesEntry entry e × ((e ≡ Memory → ⊥) → (x : X) → is_value x → entry.bytes ≢ content x)

-- a wrong object, named by the entry, or out of memory
abbrev pub NamesWrongObject : LogEntryValue → ReplayError → Type 0
NamesWrongObject entry Memory = ⊤
NamesWrongObject entry (Malformed kind id reason offset) = ⊥
NamesWrongObject entry (WrongObject kind id) = Names entry kind id.items
NamesWrongObject entry (Backend error) = ⊥

-- the id is not that of the entry, or memory ran out
abbrev pub IsWrongId : LogEntryValue → List ℕ → ReplayError → Type 0
IsWrongId entry id e = NamesWrongObject entry e × ¬ (entry.id ≡ id)
