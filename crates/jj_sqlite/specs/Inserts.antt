-- The entries of a log as the rows of its table, and the errors of an insertion.
-- Cited by contracts of public items: ContainsEntries, ConvertsTo, FailsToInsert,
-- HasEntriesAfterCrash, MayFailToBatch, MayFailToInsert, StoresEntries, WasNewOrContains.
use Rattle.std.specs.Prelude.{◌≡◌, ◌⊎◌, ◌++◌, ◌∷◌, [], List, Err, IsTrue, false}
use Rattle.sqlite.specs.declared.error.Error.{Error}
use Rattle.sqlite.specs.declared.error.Error.TheVariants.{SqliteFailure}
use Rattle.sqlite.specs.declared.error.ErrorCode.TheVariants.{OutOfMemory}
use Rattle.sqlite.specs.Store.{Ghosts}
use Rattle.sqlite.specs.State.{State, HasCleanDisk}
use Rattle.sqlite.specs.Held.{Held, state}
use Rattle.jj_files.specs.declared.file_util.errors.SourceKind.TheVariants.{Io}
use Rattle.jj_backend.specs.Errors.{IsOtherOf}
use Rattle.jj_backend.specs.declared.backend.errors.BackendError.{BackendError}
use Rattle.jj_backend.specs.declared.backend.errors.BackendError.TheVariants.{Memory}
use Rattle.jj_mirror.specs.Entries.{LogEntryValue}
use Rattle.jj_sqlite.specs.Crashes.{LeavesEntries, RunsAsIs}
use Rattle.jj_sqlite.specs.Tables.{HasEntries, IsNewOrHas, insert_statement, entry_row}

-- the error of appending that an error of SQLite is: Memory if memory ran out, else Other of kind
-- Io
abbrev pub ConvertsTo : Error → BackendError → Type 0
ConvertsTo (SqliteFailure OutOfMemory) e = e ≡ Memory
ConvertsTo cause e = IsOtherOf Io e

-- the table has the rows of these entries, or of these and one more, whose write failed
abbrev pub HasEntriesAfterCrash : State → List LogEntryValue → Type 0
HasEntriesAfterCrash s entries = HasEntries s entries
    ⊎ ((entry : LogEntryValue) × HasEntries s (entries ++ entry ∷ []))

module _ {S : Type 0} (g : Ghosts S) where
  -- While the connection is open and the disk has returned what was written to it, the table has
  -- exactly the rows of these entries.
  abbrev pub ContainsEntries : Held S → List LogEntryValue → Type 0
  ContainsEntries conn entries = HasCleanDisk (state g conn) → IsTrue (state g conn).is_open
      → HasEntries (state g conn) entries

  -- The table has exactly the rows of these entries, and a crash at this moment leaves all of them.
  pub record StoresEntries (conn : Held S) (entries : List LogEntryValue) : Type 0 where
    pub now : ContainsEntries conn entries
    pub crash : LeavesEntries g conn entries

  -- before the table is created: the table has exactly the rows of these entries, or the database
  -- has nothing and there are no entries
  abbrev pub WasNewOrContains : Held S → List LogEntryValue → Type 0
  WasNewOrContains conn entries = HasCleanDisk (state g conn) → IsTrue (state g conn).is_open
      → IsNewOrHas (state g conn) entries

  -- the statement for the entry failed with e
  abbrev pub FailsToInsert : LogEntryValue → Held S → Held S → Error → Type 0
  FailsToInsert entry old new e = HasCleanDisk (state g new)
      → RunsAsIs g insert_statement (entry_row entry) old new (Err e)

  -- the errors of appending an entry: those of its statement
  abbrev pub MayFailToInsert : Held S → LogEntryValue → BackendError → Type 0
  MayFailToInsert conn entry e = (new : Held S) × (cause : Error)
      × FailsToInsert entry conn new cause × ConvertsTo cause e

  -- the errors of appending an entry in a transaction: those of its statement, and Other of kind Io
  -- if an earlier failure has ended the transaction
  abbrev pub MayFailToBatch : Held S → LogEntryValue → BackendError → Type 0
  MayFailToBatch conn entry e = ((state g conn).in_transaction ≡ false) × IsOtherOf Io e
      ⊎ MayFailToInsert conn entry e
