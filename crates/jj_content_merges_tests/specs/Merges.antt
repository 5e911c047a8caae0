-- Merges of three versions.
-- Cited by contracts of public items: AddsUp, KeepsStart.
use Rattle.std.specs.Prelude.{◌≡◌, ℕ, ◌+◌, ◌<◌, ◌≤◌, List, [], length, take}
use Rattle.std.specs.List.{slice_index_or}
use Rattle.jj_diff.specs.Inputs.{side}
use Rattle.jj_diff.specs.Tokens.{is_line_end}
use Rattle.jj_content_merges.specs.Files.{IsSplit}
use Rattle.jj_content_merges.specs.declared.files.MergeResult.{MergeResult}
use Rattle.jj_content_merges.specs.declared.files.MergeResult.TheVariants.{Resolved, Conflict}

-- if no conflict is left, f of the result and f of the base are f of the two versions
abbrev pub AddsUp : (List ℕ → ℕ) → List ℕ → List ℕ → List ℕ → MergeResult → Type 0
AddsUp f left base right (Resolved text) = f text.items + f base ≡ f left + f right
AddsUp f left base right (Conflict hunks) = Unit {0}

-- The hunks are those of rows of the inputs, and none that has one of the first n bytes of the base
-- is a conflict.
pub record KeepsStart (n : ℕ) (inputs : List (List ℕ)) (hunks : List (List (List ℕ)))
    : Type 0 where
  pub rows : List (List (List ℕ))
  pub split : IsSplit is_line_end inputs rows
  pub kept : (m k : ℕ) → m < length rows → length (side 1 (take m rows)) ≤ k
      → k < length (side 1 (take (m + 1) rows)) → k < n → length (slice_index_or hunks m []) ≡ 1
