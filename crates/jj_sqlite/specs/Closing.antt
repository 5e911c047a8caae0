-- The entries of a log in the closed files of its database, and in its database file by itself.
-- Cited by contracts of public items: CrashContains, FilesContain, ImageContains, IsBackup.
use Rattle.std.specs.Prelude.{[], List}
use Rattle.sqlite_wal.specs.Recovery.{Image}
use Rattle.sqlite_wal.specs.Files.{outcomes}
use Rattle.sqlite_wal.specs.Reads.{AreClean}
use Rattle.sqlite_disk.specs.declared.Disk.{Ghosts}
use Rattle.sqlite_disk.specs.declared.Files.{Files}
use Rattle.sqlite_store.specs.declared.store.FileStore.{FileStore}
use Rattle.sqlite.specs.Files.{file_state, image_of, over_files, Finds, HoldsDatabase, IsOpened}
use Rattle.sqlite.specs.Held.{Held}
use Rattle.sqlite.specs.Tree.{Trees}
use Rattle.sqlite.specs.State.{HasCleanDisk}
use Rattle.jj_mirror.specs.Entries.{LogEntryValue}
use Rattle.jj_sqlite.specs.Crashes.{HasLog}
use Rattle.jj_sqlite.specs.Inserts.{ContainsEntries}

-- each connection that is opened on the files has exactly the rows of these entries in its table
abbrev pub FilesContain : {D : Type 0} (g : Ghosts D) → Files D → List LogEntryValue → Type 0
FilesContain {D} g files entries = (conn : Held (FileStore D g)) → HasCleanDisk (file_state conn)
    → Finds files conn → IsOpened conn → ContainsEntries over_files conn entries

-- this content of the files is the database of a log with these entries
abbrev pub ImageContains : Image → List LogEntryValue → Type 0
ImageContains image entries = ∥ ((db : Trees) × HoldsDatabase image db × HasLog db entries) ∥₁

-- each content of the closed files that a crash at this moment may leave is the database of a log
-- with these entries
abbrev pub CrashContains : {D : Type 0} (g : Ghosts D) → Files D → List LogEntryValue → Type 0
CrashContains g files entries = AreClean g files.log files.db → (image : Image)
    → outcomes g files.log files.db image → ImageContains image entries

-- The database file by itself, beside an empty write-ahead log, is the database of a log with these
-- entries, as it reads now and after a crash.
pub record IsBackup {D : Type 0} (g : Ghosts D) (files : Files D) (entries : List LogEntryValue)
    : Type 0 where
  pub now : AreClean g files.log files.db
      → ImageContains (record (image_of g files) { log = [] }) entries
  pub crash : AreClean g files.log files.db → (image : Image)
      → outcomes g files.log files.db image → ImageContains (record image { log = [] }) entries
