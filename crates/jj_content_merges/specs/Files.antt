-- Merges of contents, hunk by hunk.
-- Cited by contracts of public items: IsContentMerge, IsMergeResult, IsResolvedTo, terms_of,
-- tried_outcome.
use Rattle.std.specs.Prelude.{◌≡◌, ◌⊎◌, ℕ, ◌<◌, ◌≤◌, true, false, List, [], ◌∷◌, length, take, All, Option, Some, None, if◌then◌else◌}
use Rattle.std.specs.List.{AllZip, slice_index_or}
use Rattle.std.specs.Str.{bytes_eq}
use Rattle.jj_diff.specs.Inputs.{bytes_of, side}
use Rattle.jj_diff.specs.Tokens.{is_line_end, is_word_end, IsCut, TokenEnds}
use Rattle.jj_merges.specs.declared.merge.SameChange.{SameChange}
use Rattle.jj_merges.specs.Resolution.{ResolvesTo}
use Rattle.jj_content_merges.specs.declared.files.FileMergeHunkLevel.{FileMergeHunkLevel}
use Rattle.jj_content_merges.specs.declared.files.FileMergeHunkLevel.TheVariants.{Line, Word}
use Rattle.jj_content_merges.specs.declared.files.hunks.MergeHunk.{MergeHunk}
use Rattle.jj_content_merges.specs.declared.files.hunks.MergeHunk.TheVariants.{Resolved, Merged, Conflict}
use Rattle.jj_content_merges.specs.declared.files.MergeResult.{MergeResult}
use Rattle.jj_content_merges.specs.declared.files.MergeResult.TheVariants.{Resolved as ResolvedResult, Conflict as ConflictResult}
use Rattle.jj_content_merges.specs.Comparisons.{IsTightSplit}
use Rattle.jj_content_merges.specs.Hunks.{contents, joined, all_resolved, merged_side}

-- the terms of a hunk: one if it is resolved
abbrev pub terms_of : MergeHunk → List (List ℕ)
terms_of (Resolved text) = text.now ∷ []
terms_of (Merged text) = text.items ∷ []
terms_of (Conflict row) = bytes_of row.items

-- the columns of the rows, joined, are the inputs, and no row cuts a token
pub record IsSplit (is_end : TokenEnds) (inputs : List (List ℕ)) (rows : List (List (List ℕ)))
    : Type 0 where
  pub width : All (λ row. length row ≡ length inputs) rows
  pub sides : (i : ℕ) → i < length inputs → side i rows ≡ slice_index_or inputs i []
  pub cuts : (k i : ℕ) → k ≤ length rows → i < length inputs
      → IsCut is_end (slice_index_or inputs i []) (length (side i (take k rows)))

-- the row resolves to the only term, or to nothing and the terms are the row
abbrev pub IsOutcome : SameChange → List (List ℕ) → List (List ℕ) → Type 0
IsOutcome same row terms =
    ((v : List ℕ) × (terms ≡ v ∷ []) × ResolvesTo bytes_eq same row v)
    ⊎ ((terms ≡ row) × ((v : List ℕ) → ¬ (ResolvesTo bytes_eq same row v)))

-- each row has its outcome, in order
abbrev pub Outcomes : SameChange → List (List (List ℕ)) → List (List (List ℕ)) → Type 0
Outcomes same = AllZip (IsOutcome same)

-- the hunks are the outcomes of rows of tokens, whose columns, joined, are the inputs
pub record IsTokenMerge (is_end : TokenEnds) (same : SameChange) (inputs : List (List ℕ))
    (hunks : List (List (List ℕ))) : Type 0 where
  pub rows : List (List (List ℕ))
  pub split : IsSplit is_end inputs rows
  pub outcomes : Outcomes same rows hunks

-- the outcome of a row that does not resolve: a merge by words that leaves no conflict, or the row
pub record IsWordMerge (same : SameChange) (row terms : List (List ℕ)) : Type 0 where
  pub words : List (List (List ℕ))
  pub merge : IsTokenMerge is_word_end same row words
  pub outcome : terms ≡ (if all_resolved words then merged_side 0 words ∷ [] else row)

-- the outcome of a row that does not resolve
abbrev pub IsUnresolved : FileMergeHunkLevel → SameChange → List (List ℕ) → List (List ℕ) → Type 0
IsUnresolved Line same row terms = terms ≡ row
IsUnresolved Word same row terms = IsWordMerge same row terms

-- the outcome of a row: its resolved value, or a conflict if it does not resolve
abbrev pub IsHunk : FileMergeHunkLevel → SameChange → List (List ℕ) → List (List ℕ) → Type 0
IsHunk level same row terms =
    ((v : List ℕ) × (terms ≡ v ∷ []) × ResolvesTo bytes_eq same row v)
    ⊎ (IsUnresolved level same row terms × ((v : List ℕ) → ¬ (ResolvesTo bytes_eq same row v)))

-- The hunks are the outcomes of rows of whole lines, whose columns, joined, are the inputs. In a
-- three-way merge, a line of the base that matches in comparisons with both sides is in no row that
-- does not resolve.
pub record IsContentMerge (level : FileMergeHunkLevel) (same : SameChange)
    (inputs : List (List ℕ)) (hunks : List (List (List ℕ))) : Type 0 where
  pub rows : List (List (List ℕ))
  pub split : IsSplit is_line_end inputs rows
  pub outcomes : AllZip (IsHunk level same) rows hunks
  pub tight : IsTightSplit same inputs rows

-- resolved exactly if no hunk is a conflict: then the hunks in one, else joined
abbrev pub IsResult : List (List (List ℕ)) → MergeResult → Type 0
IsResult hunks (ResolvedResult text) =
    (all_resolved hunks ≡ true) × (text.items ≡ merged_side 0 hunks)
IsResult hunks (ConflictResult merged) =
    (all_resolved hunks ≡ false) × (contents merged.items ≡ joined hunks)

-- the result of merged hunks
pub record IsMergeResult (level : FileMergeHunkLevel) (same : SameChange)
    (inputs : List (List ℕ)) (result : MergeResult) : Type 0 where
  pub hunks : List (List (List ℕ))
  pub merge : IsContentMerge level same inputs hunks
  pub outcome : IsResult hunks result

-- the result is resolved, and its content is v
abbrev pub IsResolvedTo : List ℕ → MergeResult → Type 0
IsResolvedTo v (ResolvedResult text) = text.items ≡ v
IsResolvedTo v (ConflictResult hunks) = ⊥

-- the bytes, if no hunk is a conflict
abbrev pub tried_outcome : List (List (List ℕ)) → Option (List ℕ)
tried_outcome hunks = if all_resolved hunks then Some (merged_side 0 hunks) else None
