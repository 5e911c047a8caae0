-- A file system in memory, as the list of its edits, the newest first.
-- Cited by contracts of public items: contents_of, is_synced_at, LeftAfter, LeftNow, MayCreate,
-- MayWrite, MaySync, MayRename, MayRemove, HaveSameEdits.
use Rattle.std.specs.Prelude.{◌≡◌, ◌≢◌, ◌⊎◌, ◌≤◌, ℕ, Bool, true, false, cond, List, [], ◌∷◌, ◌++◌, Option, Some, None, Result, MatchResult, length, take, string_bytes}
use Rattle.std.specs.Str.{bytes_eq}
use Rattle.std.specs.declared.io.Error.{Error}
use Rattle.jj_temp_files_tests.specs.declared.memory_disk.Edit.{Edit}
use Rattle.jj_temp_files_tests.specs.declared.memory_disk.MemoryDisk.{MemoryDisk}
use Rattle.jj_temp_files_tests.specs.declared.memory_disk.MemoryFile.{MemoryFile}

-- the edit is one of the file at this path
abbrev pub is_at : List ℕ → Edit → Bool
is_at path edit = bytes_eq (string_bytes edit.path) path

-- the file after an edit
abbrev pub file_after : Edit → Option (List ℕ)
file_after edit = cond edit.is_there (Some edit.bytes.items) None

-- the file at a path
abbrev pub contents_of : List Edit → List ℕ → Option (List ℕ)
contents_of [] path = None
contents_of (edit ∷ older) path = cond (is_at path edit) (file_after edit) (contents_of older path)

-- whether the data of the file at a path was synced, or there is no file
abbrev pub is_synced_at : List Edit → List ℕ → Bool
is_synced_at [] path = true
is_synced_at (edit ∷ older) path = cond (is_at path edit) edit.is_synced (is_synced_at older path)

-- A crash leaves a synced file and no file as they are. Data that was not synced is arbitrary after
-- a crash.
abbrev pub Leaves : Option (List ℕ) → Bool → Option (List ℕ) → Type 0
Leaves None synced left = left ≡ None
Leaves (Some bytes) true left = left ≡ Some bytes
Leaves (Some bytes) false left = left ≢ None

-- an outcome of a crash after these edits
abbrev pub LeftNow : List Edit → List ℕ → Option (List ℕ) → Type 0
LeftNow edits path left = Leaves (contents_of edits path) (is_synced_at edits path) left

-- an outcome of a crash after these edits, or after the older ones, but for so many
abbrev pub LeftAfter : List Edit → ℕ → List ℕ → Option (List ℕ) → Type 0
LeftAfter [] since path left = LeftNow [] path left
LeftAfter (edit ∷ older) since path left = LeftNow (edit ∷ older) path left
    ⊎ ((since ≤ length older) × LeftAfter older since path left)

-- one edit was added: at this path there is this file, or none, and it is synced or not
pub record Adds (old new : List Edit) (path : List ℕ) (file : Option (List ℕ)) (synced : Bool)
    : Type 0 where
  pub edit : Edit
  pub is : new ≡ edit ∷ old
  pub at : string_bytes edit.path ≡ path
  pub there : file_after edit ≡ file
  pub is_synced : edit.is_synced ≡ synced

-- no edit was added
abbrev pub HaveSameEdits : MemoryDisk → MemoryDisk → Type 0
HaveSameEdits old new = new.edits.items ≡ old.edits.items

abbrev pub MayCreate : MemoryDisk → List ℕ → Result MemoryFile Error → MemoryDisk → Type 0
MayCreate old path created new = MatchResult created
    (λ file. (string_bytes file.path ≡ path) × (file.written.items ≡ [])
    × Adds old.edits.items new.edits.items path (Some []) false)
    (λ error. HaveSameEdits old new)

abbrev pub MayWrite : MemoryDisk → MemoryFile → List ℕ → Result ℕ Error → MemoryDisk → MemoryFile
    → Type 0
MayWrite old file piece result new next = (string_bytes next.path ≡ string_bytes file.path)
    × MatchResult result
    (λ count. (next.written.items ≡ file.written.items ++ take count piece)
    × Adds old.edits.items new.edits.items (string_bytes file.path) (Some next.written.items) false)
    (λ error. HaveSameEdits old new)

-- only a file that is as it was written is synced
abbrev pub MaySync : MemoryDisk → MemoryFile → Result (Unit {0}) Error → MemoryDisk → Type 0
MaySync old file result new = MatchResult result
    (λ done. (contents_of old.edits.items (string_bytes file.path) ≡ Some file.written.items)
    × Adds old.edits.items new.edits.items (string_bytes file.path) (Some file.written.items) true)
    (λ error. HaveSameEdits old new)

-- the file was added at the new path too
pub record Copies (old : List Edit) (from to : List ℕ) (new : List Edit) : Type 0 where
  pub bytes : List ℕ
  pub there : contents_of old from ≡ Some bytes
  pub added : Adds old new to (Some bytes) (is_synced_at old from)

-- the file was added at the new path, and then removed from the old one
pub record Moves (old : List Edit) (from to : List ℕ) (new : List Edit) : Type 0 where
  pub apart : from ≢ to
  pub middle : List Edit
  pub copied : Copies old from to middle
  pub removed : Adds middle new from None true

-- after an error the file may be at both paths
abbrev pub MayRename : MemoryDisk → List ℕ → List ℕ → Result (Unit {0}) Error → MemoryDisk → Type 0
MayRename old from to result new = MatchResult result
    (λ done. Moves old.edits.items from to new.edits.items)
    (λ error. HaveSameEdits old new ⊎ Copies old.edits.items from to new.edits.items)

abbrev pub MayRemove : MemoryDisk → List ℕ → Result (Unit {0}) Error → MemoryDisk → Type 0
MayRemove old path result new = MatchResult result
    (λ done. Adds old.edits.items new.edits.items path None true) (λ error. HaveSameEdits old new)
