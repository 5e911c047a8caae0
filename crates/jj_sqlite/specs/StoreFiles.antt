-- A store that was opened from a database file.
-- Cited by contracts of public items: FailsAsStore, IsStoreInFile.
use Rattle.std.specs.Prelude.{ℕ, List, take}
use Rattle.sqlite_disk.specs.declared.Disk.{Ghosts as DiskGhosts}
use Rattle.sqlite_store.specs.declared.store.FileStore.{FileStore}
use Rattle.sqlite.specs.Files.{file_state, over_files, IsOpened as IsDatabaseOpened}
use Rattle.sqlite.specs.Store.{Ghosts}
use Rattle.sqlite.specs.State.{HasCleanDisk}
use Rattle.sqlite.specs.Held.{Held, state}
use Rattle.jj_trees.specs.MemoryObjects.{MemoryBackendValue}
use Rattle.jj_mirror.specs.Entries.{LogEntryValue}
use Rattle.jj_mirror.specs.Replays.{IsReplay}
use Rattle.jj_sqlite.specs.Inserts.{StoresEntries, WasNewOrContains}
use Rattle.jj_sqlite.specs.Opening.{IsOpenError, IsOpened}
use Rattle.jj_sqlite.specs.Tables.{CountsRowsOf, HasOnlyRowsOf, IsForeign}
use Rattle.jj_sqlite.specs.declared.error.OpenError.{OpenError}

-- The log and the backend are those of a store that `open_store` opened on the connection.
pub record IsStoreOf {S : Type 0} (g : Ghosts S) (conn log : Held S) (backend : MemoryBackendValue)
    : Type 0 where
  pub opened : HasCleanDisk (state g log) → IsOpened g conn log backend
  pub entries : HasCleanDisk (state g log) → (entries : List LogEntryValue)
      → WasNewOrContains g conn entries → IsReplay entries backend
  pub damaged : HasCleanDisk (state g log) → (entries : List LogEntryValue)
      → HasOnlyRowsOf (state g conn) entries → (count : ℕ) × IsReplay (take count entries) backend
  pub counted : HasCleanDisk (state g log) → (entries : List LogEntryValue)
      → CountsRowsOf (state g conn) entries → IsReplay entries backend
  pub kept : (entries : List LogEntryValue) → WasNewOrContains g conn entries
      → StoresEntries g log entries
  pub own : ¬ (IsForeign (state g conn).now.schema)

-- the log and the backend are the store on a connection that was opened on the files
abbrev pub IsStoreInFile : {D : Type 0} {g : DiskGhosts D} → Held (FileStore D g)
    → MemoryBackendValue → Type 0
IsStoreInFile {D} {g} log backend = (conn : Held (FileStore D g))
    × (HasCleanDisk (file_state conn) → IsDatabaseOpened conn)
    × IsStoreOf over_files conn log backend

-- e is the error of opening a store on a connection that was opened on files
abbrev pub FailsAsStore : {D : Type 0} (g : DiskGhosts D) → OpenError → Type 0
FailsAsStore {D} g e = (conn left : Held (FileStore D g))
    × (HasCleanDisk (file_state conn) → IsDatabaseOpened conn)
    × (HasCleanDisk (file_state left) → IsOpenError over_files conn left e)
