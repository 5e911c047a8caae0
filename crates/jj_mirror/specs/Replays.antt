-- The objects that an in-memory backend stores after a log was replayed, and the error of the first
-- entry that fails.
-- Cited by contracts of public items: IsReplay, IsReplayCause, IsReplayError, IsReplayResult,
-- replay_error.
use Rattle.std.specs.Prelude.{◌≡◌, ◌≢◌, ◌⊎◌, ⊤, ℕ, List, take, slice_get, Some, All, Contains, Result, Ok, Err}
use Rattle.std.specs.Str.{IsValidUpTo}
use Rattle.jj_files.specs.declared.file_util.errors.SourceKind.TheVariants.{Other as OtherKind}
use Rattle.jj_backend.specs.Contents.{IsCopyHistory, copy_history_content, IsCommit, commit_content}
use Rattle.jj_backend.specs.Errors.{IsOtherOf}
use Rattle.jj_backend.specs.Objects.{Object, Objects}
use Rattle.jj_backend.specs.TreeLaws.{IsTree, tree_content}
use Rattle.jj_backend.specs.declared.backend.errors.BackendError.{BackendError}
use Rattle.jj_backend.specs.declared.backend.errors.BackendError.TheVariants.{Memory as MemoryCause}
use Rattle.jj_decode.specs.Errors.{WholeErrors}
use Rattle.jj_decode.specs.declared.error.DecodeError.{DecodeError}
use Rattle.jj_decode.specs.declared.error.DecodeError.TheVariants as decode
use Rattle.jj_decode.specs.declared.error.Malformation.TheVariants.{InvalidUtf8}
use Rattle.jj_trees.specs.MemoryObjects.{MemoryBackendValue, objects_of, digest_length, new_backend}
use Rattle.jj_mirror.specs.Entries.{LogEntryValue, entry_of, digest_of}
use Rattle.jj_mirror.specs.Objects.{Stores, IsDigestTaken, IsObject, IsParentless}
use Rattle.jj_mirror.specs.declared.object_log.ObjectKind.{ObjectKind}
use Rattle.jj_mirror.specs.declared.object_log.ObjectKind.TheVariants.{File, Symlink, Copy, Tree, Commit}
use Rattle.jj_mirror.specs.declared.error.ReplayError.{ReplayError}
use Rattle.jj_mirror.specs.declared.error.ReplayError.TheVariants.{Memory, Malformed, WrongObject, Backend}

-- the object of the entry, which is no commit without parents, is stored under the entry's id
abbrev pub IsStored : Objects → LogEntryValue → Type 0
IsStored objects entry = (object : Object) × IsObject object × ¬ (IsParentless object)
    × (entry ≡ entry_of object) × Stores objects entry.id object

-- an entry of the list is that of the object, with this id
abbrev pub HasEntry : List LogEntryValue → List ℕ → Object → Type 0
HasEntry entries id object =
    Contains entries (entry_of object) × ((entry_of object).id ≡ id)

-- The backend is a new one with the objects of these entries, and no others besides the initial
-- objects.
pub record IsReplay (entries : List LogEntryValue) (backend : MemoryBackendValue) : Type 0 where
  pub stored : All (IsStored (objects_of backend)) entries
  pub initial : (id : List ℕ) (object : Object)
      → Stores (objects_of (new_backend digest_length)) id object
      → Stores (objects_of backend) id object
  pub only : (id : List ℕ) (object : Object) → Stores (objects_of backend) id object
      → Stores (objects_of (new_backend digest_length)) id object ⊎ HasEntry entries id object
  pub ids : backend ≡ record (new_backend digest_length) {
    files = backend.files;
    symlinks = backend.symlinks;
    copies = backend.copies;
    trees = backend.trees;
    commits = backend.commits;
  }

-- ---- errors

-- the error of replaying that an error of the backend is
abbrev pub replay_error : BackendError → ReplayError
replay_error MemoryCause = Memory
replay_error cause = Backend cause

-- the entry has the kind and the bytes of the object
abbrev pub HasBytesOf : LogEntryValue → Object → Type 0
HasBytesOf entry object =
    (entry.kind ≡ (entry_of object).kind) × (entry.bytes ≡ (entry_of object).bytes)

-- the kind and the id are those of the entry
abbrev pub Names : LogEntryValue → ObjectKind → List ℕ → Type 0
Names entry kind id = (kind ≡ entry.kind) × (id ≡ entry.id)

-- e is the error of an entry
abbrev pub IsEntryError : MemoryBackendValue → LogEntryValue → ReplayError → Type 0
IsEntryError backend entry Memory = ⊤
IsEntryError backend entry (Malformed kind id reason offset) = Names entry kind id.items
    × ((object : Object) → IsObject object → ¬ (HasBytesOf entry object))
IsEntryError backend entry (WrongObject kind id) = Names entry kind id.items
    × (digest_of entry.kind entry.bytes ≢ entry.id)
IsEntryError backend entry (Backend error) = IsOtherOf OtherKind error
    × ((object : Object) × IsObject object × HasBytesOf entry object
    × (IsParentless object ⊎ IsDigestTaken (objects_of backend) object))

-- e is the error of the first entry that cannot be replayed after those before it
abbrev pub IsReplayError : List LogEntryValue → ReplayError → Type 0
IsReplayError entries Memory = ⊤
IsReplayError entries e = (index : ℕ) × (entry : LogEntryValue) × (backend : MemoryBackendValue)
    × (slice_get entries index ≡ Some entry) × IsReplay (take index entries) backend
    × IsEntryError backend entry e

-- ---- the reason and the offset of a malformed entry

-- a target that is not UTF-8: the offset is that of the first byte that begins no character
abbrev pub TargetErrors : List ℕ → DecodeError → Type 0
TargetErrors bytes e =
    (offset : ℕ) × IsValidUpTo bytes offset × (e ≡ decode.Malformed InvalidUtf8 offset)

-- the errors of reading a copy history, a tree and a commit
module _ (copy tree commit : List ℕ → ℕ → DecodeError → Type 0) where
  -- the errors of decoding bytes as an object of the kind: a file has none
  abbrev pub KindErrors : ObjectKind → List ℕ → DecodeError → Type 0
  KindErrors File bytes e = ⊥
  KindErrors Symlink bytes e = TargetErrors bytes e
  KindErrors Copy bytes e = WholeErrors IsCopyHistory copy_history_content copy bytes e
  KindErrors Tree bytes e = WholeErrors IsTree tree_content tree bytes e
  KindErrors Commit bytes e = WholeErrors IsCommit commit_content commit bytes e

  -- the reason and the offset of the first entry that cannot be replayed, if it is malformed, are
  -- those of decoding its bytes
  abbrev pub IsReplayCause : List LogEntryValue → ReplayError → Type 0
  IsReplayCause entries Memory = ⊤
  IsReplayCause entries (Malformed kind id reason offset) = (index : ℕ) × (entry : LogEntryValue)
      × (backend : MemoryBackendValue) × (slice_get entries index ≡ Some entry)
      × IsReplay (take index entries) backend × Names entry kind id.items
      × KindErrors entry.kind entry.bytes (decode.Malformed reason offset)
  IsReplayCause entries (WrongObject kind id) = ⊤
  IsReplayCause entries (Backend error) = ⊤

  -- the result of replaying these entries: their backend, or the error of the first that fails
  abbrev pub IsReplayResult : List LogEntryValue → Result MemoryBackendValue ReplayError → Type 0
  IsReplayResult entries (Ok backend) = IsReplay entries backend
  IsReplayResult entries (Err e) = IsReplayError entries e × IsReplayCause entries e
