-- The logs that a crash may leave in a database, and the effect of a statement on them.
-- Cited by contracts of public items: CommitsAsIs, HasLog, HasLogAfterCrash, LeavesEntries,
-- RunsAsIs.
use Rattle.std.specs.Prelude.{◌≡◌, ◌⊎◌, ◌++◌, ◌∷◌, [], ℕ, List, Bool, Result, Ok, Err}
use Rattle.sqlite_catalog.specs.Listing.{IsSound}
use Rattle.sqlite.specs.declared.error.Error.{Error}
use Rattle.sqlite.specs.Order.{Row}
use Rattle.sqlite.specs.Tree.{Trees}
use Rattle.sqlite.specs.Store.{Ghosts}
use Rattle.sqlite.specs.State.{HasCleanDisk, CommitsBy, Executes, IsNotRun, IsUnchanged}
use Rattle.sqlite.specs.Held.{Held, state}
use Rattle.jj_mirror.specs.Entries.{LogEntryValue}
use Rattle.jj_sqlite.specs.Tables.{HasRows, log_schema}

-- The database has only the table of a log, and obeys its schema. The rows are those of these
-- entries, in their order and numbered from 1.
pub record HasLog (db : Trees) (entries : List LogEntryValue) : Type 0 where
  pub counted : Bool
  pub sound : IsSound (log_schema counted) db
  pub rows : HasRows counted db entries

-- the log of the database has these entries, or these and one more, whose write failed
abbrev pub HasLogAfterCrash : Trees → List LogEntryValue → Type 0
HasLogAfterCrash db entries =
    HasLog db entries ⊎ ((entry : LogEntryValue) × HasLog db (entries ++ entry ∷ []))

module _ {S : Type 0} (g : Ghosts S) where
  -- Each database that a crash at this moment may leave has a log with all of these entries, none
  -- in part, and at most one more.
  abbrev pub LeavesEntries : Held S → List LogEntryValue → Type 0
  LeavesEntries conn entries = HasCleanDisk (state g conn) → (db : Trees)
      → (state g conn).may_leave db → HasLogAfterCrash db entries

  -- the statement ran on a connection that reads the same database as the old one, or did not run
  abbrev pub RunsAsIs : List ℕ → Row → Held S → Held S → Result ℕ Error → Type 0
  RunsAsIs sql params old new (Ok count) = (same : Held S)
      × IsUnchanged (state g old) (state g same)
      × Executes sql params (state g same) (state g new) (Ok count)
  RunsAsIs sql params old new (Err e) = IsNotRun (state g old) (state g new) sql params e
      ⊎ ((same : Held S) × IsUnchanged (state g old) (state g same)
      × Executes sql params (state g same) (state g new) (Err e))

  -- the statement commits this database on a connection that reads the same one as the old
  abbrev pub CommitsAsIs : List ℕ → Row → Held S → Trees → Type 0
  CommitsAsIs sql params old db = (same : Held S) × IsUnchanged (state g old) (state g same)
      × CommitsBy sql params (state g same) db
