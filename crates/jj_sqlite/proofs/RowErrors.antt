-- Reading rows: their entries, and the first error.
use Rattle.std.proofs.Common.{◌≡◌, ◌∙◌, ℕ, suc, ◌+◌, ◌<◌, pos, List, [], ◌∷◌, ◌++◌, length, take, get_or, slice_get, Some, refl, sym, ap, subst, arith}
use Rattle.std.proofs.lemmas.List.{length-take-le, take_more}
use Rattle.std.specs.List.{AllZip}
use Rattle.sqlite.specs.declared.types.Value.TheVariants.{Int}
use Rattle.sqlite.specs.Order.{Row, column}
use Rattle.jj_mirror.specs.Entries.{LogEntryValue}
use Rattle.jj_sqlite.specs.Rows.{AreNumbered, AreNumberedAfter, IsErrorAt, IsGoodRow, IsReadError}
use Rattle.jj_sqlite.specs.declared.error.OpenError.{OpenError}
use Rattle.jj_sqlite.specs.declared.error.OpenError.TheVariants.{Memory, Sqlite, Foreign, Gap, Lost, WrongObject, UnknownKind, Malformed, Backend}

-- the entries of rows and of one more
pub push : (rows : List Row) (entries : List LogEntryValue) (row : Row) (entry : LogEntryValue) → AllZip IsGoodRow rows entries → IsGoodRow row entry
    → AllZip IsGoodRow (rows ++ row ∷ []) (entries ++ entry ∷ [])
push [] [] row entry all this = (this, tt)
push [] (e ∷ entries) row entry all this = absurd all
push (r ∷ rows) [] row entry all this = absurd all
push (r ∷ rows) (e ∷ entries) row entry all this = (all.0, push rows entries row entry all.1 this)

-- the entries of the rows up to an index, and that of the row there
pub more_rows : (rows : List Row) (entries : List LogEntryValue) (i : ℕ) (row : Row) (entry : LogEntryValue) → i < length rows → row ≡ get_or rows i row
    → AllZip IsGoodRow (take i rows) entries → IsGoodRow row entry → AllZip IsGoodRow (take (i + 1) rows) (entries ++ entry ∷ [])
more_rows rows entries i row entry lt is all this =
    subst (λ (l : List Row). AllZip IsGoodRow l (entries ++ entry ∷ [])) (ap (λ z. take i rows ++ z ∷ []) is ∙ sym (take_more rows i row lt)) (push (take i rows) entries row entry all this)

-- rows are numbered, and one more is
pub push_number : (rows : List Row) (row : Row) (count : ℕ) → AreNumberedAfter count rows → column row 0 ≡ Int (pos (count + length rows + 1)) → AreNumberedAfter count (rows ++ row ∷ [])
push_number [] row count all next = (next ∙ ap (λ n. Int (pos n)) (omega arith), tt)
push_number (r ∷ rows) row count all next = (all.0, push_number rows row (count + 1) all.1 (next ∙ ap (λ n. Int (pos n)) (omega arith)))

-- the numbers of the rows up to an index, and that of the row there
pub more_numbers : (rows : List Row) (i : ℕ) (row : Row) → i < length rows → row ≡ get_or rows i row → AreNumbered (take i rows) → column row 0 ≡ Int (pos (i + 1)) → AreNumbered (take (i + 1) rows)
more_numbers rows i row lt is all next =
    let whole : length (take i rows) ≡ i = length-take-le i rows (omega (arith, lt)) in
    subst (λ (l : List Row). AreNumbered l) (ap (λ z. take i rows ++ z ∷ []) is ∙ sym (take_more rows i row lt))
    (push_number (take i rows) row 0 all (next ∙ ap (λ n. Int (pos n)) (omega (arith, whole))))

-- as many rows are good as there are entries
pub good_length : (rows : List Row) (entries : List LogEntryValue) → AllZip IsGoodRow rows entries → length entries ≡ length rows
good_length [] [] all = refl
good_length [] (e ∷ entries) all = absurd all
good_length (r ∷ rows) [] all = absurd all
good_length (r ∷ rows) (e ∷ entries) all = ap suc (good_length rows entries all.1)

-- the count of the entries is the index of the next row
pub next_number : (rows : List Row) (index count : ℕ) (row : Row) (entries : List LogEntryValue) → index < length rows → AllZip IsGoodRow (take index rows) entries → count ≡ length entries
    → column row 0 ≡ Int (pos (count + 1)) → column row 0 ≡ Int (pos (index + 1))
next_number rows index count row entries within good many next =
    next ∙ ap (λ n. Int (pos (n + 1))) (many ∙ good_length (take index rows) entries good ∙ length-take-le index rows (omega (arith, within)))

-- the error of the row at an index, after the rows of as many entries
pub read_error : (rows : List Row) (index count : ℕ) (row : Row) (entries : List LogEntryValue) (e : OpenError) → index < length rows → slice_get rows index ≡ Some row
    → AllZip IsGoodRow (take index rows) entries → AreNumbered (take index rows) → count ≡ length entries → IsErrorAt count row e → IsReadError rows e
read_error rows index count row entries e within at good numbered many wrong =
    go e (subst (λ (n : ℕ). IsErrorAt n row e) same wrong)
  where
    same : count ≡ index
    same = many ∙ good_length (take index rows) entries good ∙ length-take-le index rows (omega (arith, within))

    go : (e : OpenError) → IsErrorAt index row e → IsReadError rows e
    go Memory wrong = tt
    go (Gap number) wrong = (index, row, entries, at, good, wrong, numbered)
    go Foreign wrong = (index, row, entries, at, good, wrong, numbered)
    go (Lost number) wrong = (index, row, entries, at, good, wrong, numbered)
    go (Sqlite cause) wrong = (index, row, entries, at, good, wrong, numbered)
    go (WrongObject kind id) wrong = (index, row, entries, at, good, wrong, numbered)
    go (UnknownKind id) wrong = (index, row, entries, at, good, wrong, numbered)
    go (Malformed kind id reason offset) wrong = (index, row, entries, at, good, wrong, numbered)
    go (Backend error) wrong = (index, row, entries, at, good, wrong, numbered)
