-- Fields of a table: each ends with the separator, with the line or with the table.
-- Cited by contracts of public items: AreWholeFields, EndsInField; by tokenizers: ends_field.
use Rattle.std.specs.Prelude.{◌≡◌, ◌⊎◌, ◌==◌, ◌||◌, ℕ, ◌-◌, ◌++◌, Bool, List, [], length, map, slice_index}
use Rattle.jj_diff.specs.declared.diff.hunks.DiffHunk.{DiffHunk}
use Rattle.jj_diff.specs.Inputs.{side}
use Rattle.jj_diff.specs.Hunks.{row_of}

-- a field ends after the separator and after LF
abbrev pub ends_field : ℕ → ℕ → ℕ → Bool
ends_field separator before after = before == separator || before == 10

-- nothing, or a byte string that ends in the separator or in LF
abbrev pub EndsInField : ℕ → List ℕ → Type 0
EndsInField separator text = (text ≡ []) ⊎ (slice_index text (length text - 1) ≡ separator)
    ⊎ (slice_index text (length text - 1) ≡ 10)

-- part i of the earlier hunks ends with a field, or is the whole table
abbrev pub EndInField : ℕ → ℕ → List ℕ → List DiffHunk → Type 0
EndInField separator i table earlier = EndsInField separator (side i (map row_of earlier))
    ⊎ (side i (map row_of earlier) ≡ table)

-- each hunk ends with a field, or with the table
pub record AreWholeFields (separator : ℕ) (left right : List ℕ) (hunks : List DiffHunk)
    : Type 0 where
  pub left_fields : (earlier later : List DiffHunk) → hunks ≡ earlier ++ later
      → EndInField separator 0 left earlier
  pub right_fields : (earlier later : List DiffHunk) → hunks ≡ earlier ++ later
      → EndInField separator 1 right earlier
