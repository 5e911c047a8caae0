-- A backend that was opened from the log of a database, and the errors of opening one.
-- Cited by contracts of public items: FailsToCreate, FailsToRead, IsCreated, IsOpenCause,
-- IsOpenError, IsOpened, IsRead, open_error, sqlite_error.
use Rattle.std.specs.Prelude.{◌≡◌, ◌⊎◌, ⊤, ℕ, List, [], length, false, true, Ok, Err}
use Rattle.std.specs.List.{AllZip}
use Rattle.sqlite.specs.declared.error.Error.{Error}
use Rattle.sqlite.specs.declared.error.Error.TheVariants.{SqliteFailure}
use Rattle.sqlite.specs.declared.error.ErrorCode.TheVariants.{OutOfMemory}
use Rattle.sqlite.specs.Order.{Row}
use Rattle.sqlite.specs.Store.{Ghosts}
use Rattle.sqlite.specs.State.{FailsToQuery, Shown}
use Rattle.sqlite.specs.Held.{Held, state}
use Rattle.jj_decode.specs.declared.error.DecodeError.{DecodeError}
use Rattle.jj_trees.specs.MemoryObjects.{MemoryBackendValue}
use Rattle.jj_mirror.specs.Entries.{LogEntryValue}
use Rattle.jj_mirror.specs.Replays.{IsReplay, IsReplayCause, IsReplayError}
use Rattle.jj_mirror.specs.declared.error.ReplayError.{ReplayError}
use Rattle.jj_mirror.specs.declared.error.ReplayError.TheVariants as replay
use Rattle.jj_sqlite.specs.Crashes.{RunsAsIs}
use Rattle.jj_sqlite.specs.Tables.{count_statement, create_statement, is_counted, select_statement, IsForeign}
use Rattle.jj_sqlite.specs.Rows.{AreNumbered, IsGoodRow, IsReadError, ShowsCount}
use Rattle.jj_sqlite.specs.declared.error.OpenError.{OpenError}
use Rattle.jj_sqlite.specs.declared.error.OpenError.TheVariants.{Memory, Sqlite, Foreign, Lost, WrongObject, Malformed, Backend}

-- the error of opening that an error of SQLite is
abbrev pub sqlite_error : Error → OpenError
sqlite_error (SqliteFailure OutOfMemory) = Memory
sqlite_error cause = Sqlite cause

-- the error of opening that an error of replaying is
abbrev pub open_error : ReplayError → OpenError
open_error replay.Memory = Memory
open_error (replay.Malformed kind id reason offset) = Malformed kind id reason offset
open_error (replay.WrongObject kind id) = WrongObject kind id
open_error (replay.Backend error) = Backend error

module _ {S : Type 0} (g : Ghosts S) (old new : Held S) where
  -- the statement that creates the table, unless there is one, was executed
  abbrev pub IsCreated : Type 0
  IsCreated = (count : ℕ) × RunsAsIs g create_statement [] old new (Ok count)

  -- the statement that creates the table failed, or the database is another program's and stays as
  -- it is
  abbrev pub FailsToCreate : OpenError → Type 0
  FailsToCreate e = ((cause : Error) × (e ≡ sqlite_error cause)
      × RunsAsIs g create_statement [] old new (Err cause))
      ⊎ ((e ≡ Foreign) × IsForeign (state g old).now.schema × (new ≡ old))

  -- SQLite does not count rows, or has counted so many of the table
  abbrev pub IsCounted : ℕ → Type 0
  IsCounted count = ((is_counted (state g old).now.schema ≡ false) × (new ≡ old))
      ⊎ ((counts : List Row) × Shown count_statement [] (state g old) (state g new) counts
      × ShowsCount count counts)

  -- SQLite counts rows, and the count cannot be read or is another
  abbrev pub FailsToCount : ℕ → OpenError → Type 0
  FailsToCount count e = (is_counted (state g old).now.schema ≡ true)
      × (((cause : Error) × (e ≡ sqlite_error cause)
      × FailsToQuery count_statement [] (state g old) (state g new) cause)
      ⊎ ((counts : List Row) × Shown count_statement [] (state g old) (state g new) counts
      × ¬ (ShowsCount count counts) × (e ≡ Lost count)))

module _ {S : Type 0} (g : Ghosts S) (old new : Held S) where
  -- The rows of the table were read, and then their count.
  pub record IsRead (rows : List Row) : Type 0 where
    pub read : Held S
    pub shown : Shown select_statement [] (state g old) (state g read) rows
    pub counted : IsCounted g read new (length rows)

  -- The rows of the table cannot be read, or e is the error of the first row that has one, or the
  -- rows are those of entries, and their count cannot be read or is another.
  abbrev pub FailsToRead : OpenError → Type 0
  FailsToRead e = ((cause : Error) × (e ≡ sqlite_error cause)
      × FailsToQuery select_statement [] (state g old) (state g new) cause)
      ⊎ ((rows : List Row) × Shown select_statement [] (state g old) (state g new) rows
      × IsReadError rows e)
      ⊎ ((read : Held S) × (rows : List Row) × (entries : List LogEntryValue)
      × Shown select_statement [] (state g old) (state g read) rows × AllZip IsGoodRow rows entries
      × AreNumbered rows × FailsToCount g read new (length rows) e)

  -- The rows of the table are read, each of them is an entry whose id is the digest of its object,
  -- and the backend has the objects of these entries.
  pub record IsReplayed (backend : MemoryBackendValue) : Type 0 where
    pub rows : List Row
    pub entries : List LogEntryValue
    pub are_read : IsRead rows
    pub are_good : AllZip IsGoodRow rows entries
    pub is_replay : IsReplay entries backend

  -- the rows of the table are read, and e is the error of replaying their entries
  pub record FailsToReplay (e : OpenError) : Type 0 where
    pub rows : List Row
    pub entries : List LogEntryValue
    pub cause : ReplayError
    pub are_read : IsRead rows
    pub are_good : AllZip IsGoodRow rows entries
    pub is_cause : IsReplayError entries cause
    pub is_error : e ≡ open_error cause

module _ {S : Type 0} (g : Ghosts S) (old new : Held S) where
  -- the table is there or created, and the backend has the objects of its rows' entries
  abbrev pub IsOpened : MemoryBackendValue → Type 0
  IsOpened backend =
      (created : Held S) × IsCreated g old created × IsReplayed g created new backend

  -- e is an error of creating the table, of reading its rows, or of replaying their entries
  abbrev pub IsOpenError : OpenError → Type 0
  IsOpenError e = FailsToCreate g old new e ⊎ ((created : Held S) × IsCreated g old created
      × (FailsToRead g created new e ⊎ FailsToReplay g created new e))

-- ---- the reason and the offset of a malformed entry

-- P of the error of replaying, if the error of opening is that an entry is malformed
abbrev pub OnMalformed : OpenError → (ReplayError → Type 0) → Type 0
OnMalformed (Malformed kind id reason offset) P = P (replay.Malformed kind id reason offset)
OnMalformed e P = ⊤

-- the errors of reading a copy history, a tree and a commit
module _ {S : Type 0} (g : Ghosts S) (copy tree commit : List ℕ → ℕ → DecodeError → Type 0) where
  -- the rows of the table are read, and the reason and the offset of the error of replaying their
  -- entries are those of decoding the bytes of the first one that cannot be replayed
  pub record IsDecodingError (old new : Held S) (cause : ReplayError) : Type 0 where
    pub rows : List Row
    pub entries : List LogEntryValue
    pub are_read : IsRead g old new rows
    pub are_good : AllZip IsGoodRow rows entries
    pub is_cause : IsReplayCause copy tree commit entries cause

  -- if an entry is malformed, the reason and the offset are those of decoding its bytes
  abbrev pub IsOpenCause : Held S → Held S → OpenError → Type 0
  IsOpenCause old new e = OnMalformed e (λ cause. (created : Held S) × IsCreated g old created
      × IsDecodingError created new cause)
