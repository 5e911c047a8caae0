-- The rows of a log's table, and the entries that are read from them.
-- Cited by contracts of public items: AreNumbered, IsGoodRow, IsReadError, ShowsCount.
use Rattle.std.specs.Prelude.{◌≡◌, ◌≢◌, ◌⊎◌, ◌+◌, ◌≤◌, ⊤, ℕ, pos, List, [], ◌∷◌, length, take, slice_get, Some, IsUtf8}
use Rattle.std.specs.List.{AllZip}
use Rattle.sqlite.specs.declared.types.Value.{Value}
use Rattle.sqlite.specs.declared.types.Value.TheVariants.{Int, Text, Blob}
use Rattle.sqlite.specs.declared.types.FromSqlError.{FromSqlError}
use Rattle.sqlite.specs.declared.types.FromSqlError.TheVariants.{InvalidType}
use Rattle.sqlite.specs.declared.error.Error.{Error}
use Rattle.sqlite.specs.declared.error.Error.TheVariants.{InvalidColumnIndex}
use Rattle.sqlite.specs.Order.{Row, column}
use Rattle.sqlite.specs.Reading.{read_error}
use Rattle.sqlite.specs.Values.{text_refusal}
use Rattle.jj_mirror.specs.Entries.{LogEntryValue, digest_of, kind_name}
use Rattle.jj_mirror.specs.declared.object_log.ObjectKind.{ObjectKind}
use Rattle.jj_sqlite.specs.declared.error.OpenError.{OpenError}
use Rattle.jj_sqlite.specs.declared.error.OpenError.TheVariants.{Memory, Sqlite, Foreign, Gap, Lost, WrongObject, UnknownKind, Malformed, Backend}

-- the columns of the row are those of the entry
abbrev pub IsEntryRow : Row → LogEntryValue → Type 0
IsEntryRow row entry = (column row 1 ≡ Text (kind_name entry.kind))
    × (column row 2 ≡ Blob entry.id) × (column row 3 ≡ Blob entry.bytes)

-- the id is the digest of the object
abbrev pub HasDigest : LogEntryValue → Type 0
HasDigest entry = digest_of entry.kind entry.bytes ≡ entry.id

-- the row is that of the entry, whose id is the digest of its object
abbrev pub IsGoodRow : Row → LogEntryValue → Type 0
IsGoodRow row entry = IsEntryRow row entry × HasDigest entry

-- the rows are numbered in their order, from one above this number
abbrev pub AreNumberedAfter : ℕ → List Row → Type 0
AreNumberedAfter count [] = ⊤
AreNumberedAfter count (row ∷ rows) =
    (column row 0 ≡ Int (pos (count + 1))) × AreNumberedAfter (count + 1) rows

-- the rows are numbered in their order, from 1
abbrev pub AreNumbered : List Row → Type 0
AreNumbered rows = AreNumberedAfter 0 rows

-- the rows represent the count: no row if it is zero, else one with the number
abbrev pub ShowsCount : ℕ → List Row → Type 0
ShowsCount count [] = count ≡ 0
ShowsCount count (row ∷ []) = column row 0 ≡ Int (pos count)
ShowsCount count (row ∷ other ∷ rows) = ⊥

-- the value is a string in UTF-8
abbrev pub IsString : Value → Type 0
IsString value = (string : List ℕ) × (value ≡ Text string) × IsUtf8 string

-- the value is a list of bytes
abbrev pub IsBlob : Value → Type 0
IsBlob value = (bytes : List ℕ) × (value ≡ Blob bytes)

-- e names the column, which is missing or has a value that is not of its type
abbrev pub IsColumnError : (Value → Type 0) → (Value → FromSqlError) → ℕ → Row → Error → Type 0
IsColumnError IsTyped reason index row e = ((e ≡ InvalidColumnIndex index) × (length row ≤ index))
    ⊎ ((e ≡ read_error index (column row index) (reason (column row index)))
    × ¬ IsTyped (column row index))

-- e is an error of the row: of one of its columns, of a kind that no object has, or of an id that
-- is not the digest of the object
abbrev pub IsRowError : Row → OpenError → Type 0
IsRowError row Memory = ⊤
IsRowError row (Sqlite e) = IsColumnError IsString text_refusal 1 row e
    ⊎ IsColumnError IsBlob (λ _. InvalidType) 2 row e
    ⊎ IsColumnError IsBlob (λ _. InvalidType) 3 row e
IsRowError row (WrongObject kind id) =
    (entry : LogEntryValue) × IsEntryRow row entry × (kind ≡ entry.kind) × (id.items ≡ entry.id)
    × ¬ (HasDigest entry)
IsRowError row (UnknownKind id) = (name : List ℕ) × (column row 1 ≡ Text name)
    × (column row 2 ≡ Blob id.items) × ((kind : ObjectKind) → kind_name kind ≢ name)
IsRowError row (Gap count) = ⊥
IsRowError row (Lost count) = ⊥
IsRowError row Foreign = ⊥
IsRowError row (Malformed kind id reason offset) = ⊥
IsRowError row (Backend error) = ⊥

-- e is the error of the row after so many others: it is not numbered next, or has an error
abbrev pub IsErrorAt : ℕ → Row → OpenError → Type 0
IsErrorAt count row Memory = ⊤
IsErrorAt count row (Gap number) = (number ≡ count) × (column row 0 ≢ Int (pos (count + 1)))
IsErrorAt count row e = IsRowError row e × (column row 0 ≡ Int (pos (count + 1)))

-- e is the error of the first row that has one, after rows of entries that are numbered from 1
abbrev pub IsReadError : List Row → OpenError → Type 0
IsReadError rows Memory = ⊤
IsReadError rows e =
    (index : ℕ) × (row : Row) × (entries : List LogEntryValue) × (slice_get rows index ≡ Some row)
    × AllZip IsGoodRow (take index rows) entries × IsErrorAt index row e
    × AreNumbered (take index rows)
