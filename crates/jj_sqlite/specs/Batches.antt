-- A log in an open transaction, whose new entries are all committed or none.
-- Cited by contracts of public items: IsBatch, LeavesAllOrNone.
use Rattle.std.specs.Prelude.{◌⊎◌, List, IsTrue, codes, ℕ}
use Rattle.sqlite.specs.Held.{Held, state}
use Rattle.sqlite.specs.State.{HasCleanDisk}
use Rattle.sqlite.specs.Store.{Ghosts}
use Rattle.sqlite.specs.Tree.{Trees}
use Rattle.jj_mirror.specs.Entries.{LogEntryValue}
use Rattle.jj_sqlite.specs.Crashes.{HasLog}
use Rattle.jj_sqlite.specs.Tables.{ShowsEntries}

abbrev pub begin_statement : List ℕ
begin_statement = codes "BEGIN"

abbrev pub commit_statement : List ℕ
commit_statement = codes "COMMIT"

module _ {S : Type 0} (g : Ghosts S) where
  -- While the transaction is open it sees the second list of entries. The last commit has the
  -- first, and a crash leaves exactly these.
  pub record IsBatch (conn : Held S) (kept entries : List LogEntryValue) : Type 0 where
    pub now : HasCleanDisk (state g conn) → IsTrue (state g conn).is_open
        → IsTrue (state g conn).in_transaction → ShowsEntries (state g conn) entries
    pub committed : HasCleanDisk (state g conn) → IsTrue (state g conn).is_open
        → HasLog (state g conn).committed.trees kept
    pub crash : HasCleanDisk (state g conn) → (db : Trees) → (state g conn).may_leave db
        → HasLog db kept

  -- a crash leaves the log with the first list of entries, or with the second
  abbrev pub LeavesAllOrNone : Held S → List LogEntryValue → List LogEntryValue → Type 0
  LeavesAllOrNone conn kept entries = HasCleanDisk (state g conn) → (db : Trees)
      → (state g conn).may_leave db → HasLog db kept ⊎ HasLog db entries
