-- The table of the distinct values of a merge with their counts, as private functions see it.
-- Machinery of private functions and fields.
use Rattle.std.specs.Prelude.{ℕ, ◌≡◌, ◌+◌, ◌<◌, List, true, false, count_by, length, slice_index_or}
use Rattle.std.specs.Str.{bytes_eq}
use Rattle.jj_merges.specs.Merge as merge
use Rattle.jj_program.specs.declared.merge_counts.ValueCount.{ValueCount}
use Rattle.jj_program.specs.Lines.{Text}
use Rattle.jj_program.specs.MergeViews.{text_eq}

-- the value at index k equals these bytes
abbrev pub IsValueAt : List ValueCount → List ℕ → ℕ → Type 0
IsValueAt counts bytes k = (k < length counts)
    × ((d : ValueCount) → bytes_eq (slice_index_or counts k d).text.now bytes ≡ true)

abbrev pub HasNoValue : List ValueCount → List ℕ → Type 0
HasNoValue counts bytes = (k : ℕ) (d : ValueCount) → k < length counts
    → bytes_eq (slice_index_or counts k d).text.now bytes ≡ false

-- The counts of each distinct value among the terms of a merge, once each.
pub record AreCountsOf (terms : List Text) (counts : List ValueCount) : Type 0 where
  pub added : (k : ℕ) (d : ValueCount) → k < length counts
      → count_by (text_eq (slice_index_or counts k d).text) (merge.adds terms)
      ≡ (slice_index_or counts k d).adds
  pub removed : (k : ℕ) (d : ValueCount) → k < length counts
      → count_by (text_eq (slice_index_or counts k d).text) (merge.removes terms)
      ≡ (slice_index_or counts k d).removes
  pub known : (v : Text)
      → 0 < count_by (text_eq v) (merge.adds terms) + count_by (text_eq v) (merge.removes terms)
      → (k : ℕ) × IsValueAt counts v.now k
  pub distinct : (j k : ℕ) (d : ValueCount) → j < length counts → k < length counts
      → text_eq (slice_index_or counts j d).text (slice_index_or counts k d).text ≡ true → j ≡ k
