-- The entries of a log in closed files and after a crash.
-- Cited by contracts of public items: CrashLeaves, HasReplayAfterCrash, HasWith, IsLoaded,
-- IsLoadedFromFiles, IsRereadFrom, MayContain, SavesEntry, file_entry.
use Rattle.std.specs.Prelude.{◌≡◌, ◌⊎◌, ◌++◌, ◌∷◌, [], ℕ, List, Contains, Some}
use Rattle.sqlite_wal.specs.Recovery.{Image}
use Rattle.sqlite_disk.specs.declared.Disk.{Ghosts}
use Rattle.sqlite_disk.specs.declared.Files.{Files}
use Rattle.sqlite_store.specs.declared.store.FileStore.{FileStore}
use Rattle.sqlite_store.specs.FileStore as store
use Rattle.sqlite.specs.Files.{file_state, Finds, HoldsDatabase, over_files}
use Rattle.sqlite.specs.Files as database
use Rattle.sqlite.specs.Held.{Held}
use Rattle.sqlite.specs.State.{HasCleanDisk}
use Rattle.sqlite.specs.Tree.{Trees}
use Rattle.jj_backend.specs.Objects.{file_object}
use Rattle.jj_backend.specs.Records.{CommitValue}
use Rattle.jj_mirror.specs.Entries.{LogEntryValue, entry_of}
use Rattle.jj_mirror.specs.Replays.{IsReplay}
use Rattle.jj_trees.specs.MemoryObjects.{MemoryBackendValue, objects_of}
use Rattle.jj_sqlite.specs.Closing.{CrashContains, FilesContain, IsBackup}
use Rattle.jj_sqlite.specs.Crashes.{HasLogAfterCrash}
use Rattle.jj_sqlite.specs.Inserts.{WasNewOrContains}
use Rattle.jj_sqlite.specs.Opening.{IsOpened}

-- the entry of a file
abbrev pub file_entry : List ℕ → LogEntryValue
file_entry contents = entry_of (file_object contents)

-- these entries contain the entry and have property P, or they have it with the entry appended
abbrev pub HasWith : (List LogEntryValue → Type 0) → List LogEntryValue → LogEntryValue → Type 0
HasWith P entries entry = (Contains entries entry × P entries) ⊎ P (entries ++ entry ∷ [])

-- The closed files have these entries, which contain the entry, or these and the entry at the end:
-- for whoever opens them, after a crash, and for whoever opens a copy of the database file.
pub record SavesEntry {D : Type 0} (g : Ghosts D) (files : Files D) (entries : List LogEntryValue)
    (entry : LogEntryValue) : Type 0 where
  pub now : HasWith (FilesContain g files) entries entry
  pub crash : HasWith (CrashContains g files) entries entry
  pub backup : HasWith (IsBackup g files) entries entry

-- A connection that was opened on the files found their database. The backend of its log's rows has
-- the commit under the id, and this is the connection after reading them.
pub record IsLoaded {D : Type 0} (g : Ghosts D) (files : Files D) (conn : Held (FileStore D g))
    (id : List ℕ) (commit : CommitValue) : Type 0 where
  pub opened : Held (FileStore D g)
  pub backend : MemoryBackendValue
  pub finds : Finds files opened
  pub is_open : database.IsOpened opened
  pub is_replay : IsOpened over_files opened conn backend
  pub found : (objects_of backend).commits id ≡ Some commit

-- the commit was read from files under this id, on the connection
abbrev pub IsLoadedFromFiles : {D : Type 0} (g : Ghosts D) → Held (FileStore D g) → List ℕ
    → CommitValue → Type 0
IsLoadedFromFiles {D} g conn id commit = (files : Files D) × IsLoaded g files conn id commit

-- A connection was opened on the files. If their database was new or had the entries of a log, the
-- commit that was read is the one that was written.
abbrev pub IsRereadFrom : {D : Type 0} (g : Ghosts D) → CommitValue → CommitValue → Type 0
IsRereadFrom {D} g written read = (opened : Held (FileStore D g))
    × (HasCleanDisk (file_state opened) → database.IsOpened opened)
    × ((entries : List LogEntryValue) → WasNewOrContains over_files opened entries
    → read ≡ written)

-- this content of the files is the database of a log with these entries, and at most one more,
-- whose write failed
abbrev pub MayContain : Image → List LogEntryValue → Type 0
MayContain image entries =
    ∥ ((db : Trees) × HoldsDatabase image db × HasLogAfterCrash db entries) ∥₁

-- each content of the files of a store that a crash at this moment may leave is the database of a
-- log with these entries, and at most one more, whose write failed
abbrev pub CrashLeaves : {D : Type 0} {g : Ghosts D} → FileStore D g → List LogEntryValue → Type 0
CrashLeaves files entries = (image : Image) → (store.state files).may_leave image
    → MayContain image entries

-- the backend has the objects of these entries, or of these and one more, whose write failed
abbrev pub HasReplayAfterCrash : List LogEntryValue → MemoryBackendValue → Type 0
HasReplayAfterCrash entries backend = ∥ (IsReplay entries backend
    ⊎ ((entry : LogEntryValue) × IsReplay (entries ++ entry ∷ []) backend)) ∥₁
