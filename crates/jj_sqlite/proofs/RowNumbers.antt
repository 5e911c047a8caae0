-- Rows that are numbered in their order.
use Rattle.std.proofs.Common.{◌≡◌, ◌∙◌, ◌⊎◌, inl, inr, ℕ, zero, suc, ◌+◌, ◌<◌, ◌≤◌, pos, ◌+ℤ◌, List, [], ◌∷◌, ◌++◌, length, map, fold, refl, sym, ap, ap₂, subst, arith, take}
use Rattle.std.specs.Prelude.{All, Contains}
use Rattle.std.specs.List.{AllByRecursion}
use Rattle.std.specs.declared.cmp.Ordering.TheVariants.{Less}
use Rattle.std.proofs.lemmas.Bool.Decides.{nat_tests}
use Rattle.std.proofs.lemmas.Int.{ints}
use Rattle.std.proofs.lemmas.List.{map-append}
use Rattle.std.proofs.lemmas.List.Elements.{recursion_from_All}
use Rattle.sqlite.specs.declared.types.Value.{Value}
use Rattle.sqlite.specs.declared.types.Value.TheVariants.{Null, Int}
use Rattle.sqlite.specs.Edit.{next_rowid}
use Rattle.sqlite.specs.Order.{Row, column, value_cmp}
use Rattle.sqlite.specs.Tree.{put_row, rowid}
use Rattle.sqlite_rules.specs.Edit.{id_in}
use Rattle.sqlite_trees.specs.Tree.{IsAscending}
use Rattle.sqlite_value.proofs.OrderLemmas.{value_cmp-Int}
use Rattle.jj_mirror.specs.Entries.{LogEntryValue}
use Rattle.jj_sqlite.specs.Tables.{entry_row, log_row, log_rows, logged_columns, rows_after}
use Rattle.jj_sqlite.specs.Rows.{AreNumberedAfter}

below : (m n : ℕ) → m < n → value_cmp (Int (pos m)) (Int (pos n)) ≡ Less
below m n h = value_cmp-Int (pos m) (pos n) ∙ grind (arith, ints, nat_tests)

-- rows of entries have their numbers
head_is : (r : Row) (rows : List Row) (x : Row) (xs : List Row) → ◌≡◌ {A = List Row} (logged_columns r ∷ map logged_columns rows) (x ∷ xs) → (logged_columns r ≡ x) × (map logged_columns rows ≡ xs)
head_is r rows x xs is = (cc, cc)

number_is : (r : Row) (count : ℕ) (e : LogEntryValue) → logged_columns r ≡ log_row count e → rowid r ≡ Int (pos count)
number_is r count e is = ap (λ (row : Row). column row 0) is

-- the next number is one above their count
pub next_is : (rows : List Row) (entries : List LogEntryValue) (count start : ℕ) → start ≡ count + 1 → map logged_columns rows ≡ rows_after count entries
    → fold (λ _ (r : Row). id_in (rowid r) +ℤ pos 1) (pos start) rows ≡ pos (count + length entries + 1)
next_is [] [] count start at is = ap pos (omega (arith, at))
next_is [] (e ∷ entries) count start at is = absurd cc
next_is (r ∷ rows) [] count start at is = absurd cc
next_is (r ∷ rows) (e ∷ entries) count start at is =
    let both = head_is r rows (log_row (count + 1) e) (rows_after (count + 1) entries) is in
    let number = number_is r (count + 1) e both.0 in
    let rest = next_is rows entries (count + 1) (count + 1 + 1) (omega arith) both.1 in
    rw number (rest ∙ ap pos (omega arith))

-- a row that is numbered next is the last
pub put_last : (new : Row) (rows : List Row) (entries : List LogEntryValue) (count : ℕ) → map logged_columns rows ≡ rows_after count entries
    → rowid new ≡ Int (pos (count + length entries + 1)) → put_row new rows ≡ rows ++ new ∷ []
put_last new [] entries count is next = refl
put_last new (r ∷ rows) [] count is next = absurd cc
put_last new (r ∷ rows) (e ∷ entries) count is next =
    let both = head_is r rows (log_row (count + 1) e) (rows_after (count + 1) entries) is in
    let number = number_is r (count + 1) e both.0 in
    let rest = put_last new rows entries (count + 1) both.1 (next ∙ ap (λ n. Int (pos n)) (omega arith)) in
    let less : value_cmp (rowid r) (rowid new) ≡ Less = rw (number, next) (below (count + 1) (count + length (e ∷ entries) + 1) (omega arith)) in
    rw less (ap (λ all. r ∷ all) rest)

pub rows_after-append : (entries : List LogEntryValue) (entry : LogEntryValue) (count : ℕ) → rows_after count (entries ++ entry ∷ []) ≡ rows_after count entries ++ log_row (count + length entries + 1) entry ∷ []
rows_after-append [] entry count = ap (λ n. log_row n entry ∷ []) (omega arith)
rows_after-append (e ∷ entries) entry count =
    ap (λ all. log_row (count + 1) e ∷ all) (rows_after-append entries entry (count + 1) ∙ ap (λ n. rows_after (count + 1) entries ++ log_row n entry ∷ []) (omega arith))

abbrev pub new_row : List Row → LogEntryValue → Row
new_row rows entry = Int (next_rowid rows) ∷ Null ∷ entry_row entry

pub next_number : (rows : List Row) (entries : List LogEntryValue) → map logged_columns rows ≡ log_rows entries → next_rowid rows ≡ pos (length entries + 1)
next_number rows entries is = next_is rows entries 0 1 (omega arith) is ∙ ap pos (omega arith)

-- the row of one more entry is the last
pub more_rows : (rows : List Row) (entries : List LogEntryValue) (entry : LogEntryValue) → map logged_columns rows ≡ log_rows entries
    → map logged_columns (put_row (new_row rows entry) rows) ≡ log_rows (entries ++ entry ∷ [])
more_rows rows entries entry is =
    let next = next_number rows entries is in
    let new = new_row rows entry in
    let id : rowid new ≡ Int (pos (0 + length entries + 1)) = ap Int (next ∙ ap pos (omega arith)) in
    let put = put_last new rows entries 0 is id in
    let row : logged_columns new ≡ log_row (length entries + 1) entry = ap (λ n. Int n ∷ entry_row entry) next in
    ap (map logged_columns) put ∙ map-append logged_columns rows (new ∷ []) ∙ ap₂ (λ xs (x : Row). xs ++ x ∷ []) is row ∙ ap (λ n. log_rows entries ++ log_row n entry ∷ []) (omega arith) ∙ sym (rows_after-append entries entry 0)

-- ---- numbered rows ascend

above_all : (rows : List Row) (entries : List LogEntryValue) (count low : ℕ) → low ≤ count → map logged_columns rows ≡ rows_after count entries
    → AllByRecursion (λ r. value_cmp (Int (pos low)) (rowid r) ≡ Less) rows
above_all [] entries count low h is = tt
above_all (r ∷ rows) [] count low h is = absurd cc
above_all (r ∷ rows) (e ∷ entries) count low h is =
    let both = head_is r rows (log_row (count + 1) e) (rows_after (count + 1) entries) is in
    (rw (number_is r (count + 1) e both.0) (below low (count + 1) (omega arith)), above_all rows entries (count + 1) low (omega arith) both.1)

pub ascend : (rows : List Row) (entries : List LogEntryValue) (count : ℕ) → map logged_columns rows ≡ rows_after count entries → IsAscending (λ a b. value_cmp (rowid a) (rowid b) ≡ Less) rows
ascend [] entries count is = tt
ascend (r ∷ rows) [] count is = absurd cc
ascend (r ∷ rows) (e ∷ entries) count is =
    let both = head_is r rows (log_row (count + 1) e) (rows_after (count + 1) entries) is in
    let all = above_all rows entries (count + 1) (count + 1) (omega arith) both.1 in
    (subst (λ (v : Value). AllByRecursion (λ b. value_cmp v (rowid b) ≡ Less) rows) (sym (number_is r (count + 1) e both.0)) all, ascend rows entries (count + 1) both.1)

pub are_numbered : (entries : List LogEntryValue) (count : ℕ) → AreNumberedAfter count (rows_after count entries)
are_numbered [] count = tt
are_numbered (e ∷ entries) count = (refl, are_numbered entries (count + 1))
