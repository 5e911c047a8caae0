-- The table of a log in a database, and the entries that its rows have.
-- Cited by contracts of public items: CountsRowsOf, HasEntries, HasOnlyRowsOf, IsForeign,
-- IsNewOrHas.
use Rattle.std.specs.Prelude.{◌≡◌, ◌⊎◌, ◌+◌, ◌++◌, ◌∷◌, [], ℕ, zero, suc, pos, List, All, Contains, length, Some, None, Bool, true, false, is_some, ⊤, codes, map}
use Rattle.sqlite.specs.declared.types.Value.TheVariants.{Int, Text, Blob}
use Rattle.sqlite.specs.Kind.TheVariants as kind
use Rattle.sqlite.specs.Listing.{plain}
use Rattle.sqlite.specs.Order.{Row, column}
use Rattle.sqlite.specs.Schema.{Schema}
use Rattle.sqlite.specs.State.{State}
use Rattle.sqlite.specs.Table.{Table}
use Rattle.sqlite.specs.Tree.{Trees}
use Rattle.sqlite_schema.specs.Names.{table_named}
use Rattle.jj_mirror.specs.Entries.{LogEntryValue, kind_name}

-- the statement that creates the table of a log, if there is none
abbrev pub create_statement : List ℕ
create_statement =
    codes "CREATE TABLE IF NOT EXISTS object_log (seq INTEGER PRIMARY KEY AUTOINCREMENT, "
    ++ codes "kind TEXT NOT NULL, id BLOB NOT NULL, bytes BLOB NOT NULL) STRICT"

-- the statement that appends a row
abbrev pub insert_statement : List ℕ
insert_statement = codes "INSERT INTO object_log (kind, id, bytes) VALUES (?1, ?2, ?3)"

-- the statement that reads all rows in order
abbrev pub select_statement : List ℕ
select_statement = codes "SELECT seq, kind, id, bytes FROM object_log ORDER BY seq"

-- the statement that reads the number of rows that SQLite has counted
abbrev pub count_statement : List ℕ
count_statement = codes "SELECT seq FROM sqlite_sequence WHERE name = 'object_log'"

-- the parameters of an insertion: the name of the kind, the id and the bytes
abbrev pub entry_row : LogEntryValue → Row
entry_row entry = Text (kind_name entry.kind) ∷ Blob entry.id ∷ Blob entry.bytes ∷ []

-- The table that the statement creates in a database without tables: its rows are in tree 0. A
-- stored row has its rowid first, and Null as the column that names it. SQLite counts the rows that
-- were inserted, unless an older version created the table.
abbrev pub log_table : Bool → Table
log_table counted = record {
  name = codes "object_log";
  tree = 0;
  columns = plain (codes "seq") kind.Integer
      ∷ record (plain (codes "kind") kind.Text) { not_null = true }
      ∷ record (plain (codes "id") kind.Blob) { not_null = true }
      ∷ record (plain (codes "bytes") kind.Blob) { not_null = true } ∷ [];
  key = Some 0;
  primary = 0 ∷ [];
  uniques = [];
  orders = [];
  checks = [];
  references = [];
  computed = [];
  stamps = record { places = []; terms = []; formats = [] };
  is_counted = counted;
}

-- the table of SQLite's counts, which is created beside the first table that it counts
abbrev pub count_table : Table
count_table = record (log_table false) {
  name = codes "sqlite_sequence";
  tree = 1;
  columns = record (plain (codes "name") kind.Any) { is_strict = false }
      ∷ record (plain (codes "seq") kind.Any) { is_strict = false } ∷ [];
  key = None;
  primary = [];
}

-- the table of a log, and if `counted` that of SQLite's count of rows
abbrev pub log_tables : Bool → List Table
log_tables true = log_table true ∷ count_table ∷ []
log_tables false = log_table false ∷ []

-- the schema of a log: its table, and if `counted` that of SQLite's count of rows
abbrev pub log_schema : Bool → Schema
log_schema counted = record { tables = log_tables counted; indexes = []; views = [] }

-- SQLite counts the rows of some table
abbrev pub is_counted : Schema → Bool
is_counted schema = is_some (table_named schema (codes "sqlite_sequence"))

-- the columns seq, kind, id and bytes of a stored row
abbrev pub logged_columns : Row → Row
logged_columns row = column row 0 ∷ column row 2 ∷ column row 3 ∷ column row 4 ∷ []

-- these columns of an entry with this number
abbrev pub log_row : ℕ → LogEntryValue → Row
log_row seq entry = Int (pos seq) ∷ entry_row entry

-- these columns of entries in their order, which are numbered from one above this number
abbrev pub rows_after : ℕ → List LogEntryValue → List Row
rows_after count [] = []
rows_after count (entry ∷ entries) = log_row (count + 1) entry ∷ rows_after (count + 1) entries

-- the columns of all entries of a log, numbered from 1
abbrev pub log_rows : List LogEntryValue → List Row
log_rows entries = rows_after 0 entries

-- the database has tables, indexes or views, and no table of a log: it is another program's
abbrev pub IsForeign : Schema → Type 0
IsForeign schema = (table_named schema (codes "object_log") ≡ None)
    × ¬ ((schema.tables ≡ []) × (schema.indexes ≡ []) × (schema.views ≡ []))

-- the row of so many rows in the table of counts, which has none before the first
abbrev pub count_rows : ℕ → List Row
count_rows zero = []
count_rows (suc count) =
    (Int (pos 1) ∷ Text (codes "object_log") ∷ Int (pos (suc count)) ∷ []) ∷ []

-- SQLite has counted so many rows, if it counts them
abbrev pub HasCount : Bool → Trees → ℕ → Type 0
HasCount true db count = db 1 ≡ count_rows count
HasCount false db count = ⊤

-- the rows of the table are those of these entries in their order, and so many were counted
abbrev pub HasRows : Bool → Trees → List LogEntryValue → Type 0
HasRows counted db entries = (map logged_columns (db 0) ≡ log_rows entries)
    × HasCount counted db (length entries)

-- the connection sees only the table of a log, whose rows are those of these entries in their order
abbrev pub ShowsEntries : State → List LogEntryValue → Type 0
ShowsEntries s entries = (counted : Bool) × (s.now.schema ≡ log_schema counted)
    × HasRows counted s.now.trees entries

-- The database has only the table of a log, whose rows are those of these entries, in their order
-- and numbered from 1. No transaction is open, and the connection reads the last commit.
pub record HasEntries (s : State) (entries : List LogEntryValue) : Type 0 where
  pub counted : Bool
  pub schema : s.now.schema ≡ log_schema counted
  pub rows : HasRows counted s.now.trees entries
  pub committed : s.committed ≡ s.now
  pub autocommit : s.in_transaction ≡ false

-- the database has nothing, and no transaction is open
abbrev pub IsNewDatabase : State → Type 0
IsNewDatabase s =
    (s.now.schema ≡ record { tables = []; indexes = []; views = [] }) × (s.in_transaction ≡ false)

-- the table of a log has these entries, or there is no table and there are no entries
abbrev pub IsNewOrHas : State → List LogEntryValue → Type 0
IsNewOrHas s entries = HasEntries s entries ⊎ (IsNewDatabase s × (entries ≡ []))

-- The database has only the table of a log. Its rows are among those of these entries: some may be
-- missing, and others may be there twice or out of order.
abbrev pub HasOnlyRowsOf : State → List LogEntryValue → Type 0
HasOnlyRowsOf s entries = (counted : Bool) × (s.now.schema ≡ log_schema counted)
    × All (Contains (log_rows entries)) (map logged_columns (s.now.trees 0))

-- The rows of the table are among those of these entries, and SQLite has counted as many rows as
-- there are entries.
abbrev pub CountsRowsOf : State → List LogEntryValue → Type 0
CountsRowsOf s entries = (s.now.schema ≡ log_schema true)
    × All (Contains (log_rows entries)) (map logged_columns (s.now.trees 0))
    × HasCount true s.now.trees (length entries)
