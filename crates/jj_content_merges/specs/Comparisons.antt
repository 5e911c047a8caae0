-- Comparisons of the base of a three-way merge with its sides.
-- Cited by contracts of public items: IsTightSplit.
use Rattle.std.specs.Prelude.{◌≡◌, ◌⊎◌, ℕ, ◌+◌, ◌-◌, ◌<◌, ◌≤◌, List, [], ◌∷◌, length, map, take, slice_index}
use Rattle.std.specs.List.{slice_index_or}
use Rattle.std.specs.Str.{bytes_eq}
use Rattle.jj_diff.specs.declared.diff.hunks.DiffHunk.{DiffHunk}
use Rattle.jj_diff.specs.declared.diff.hunks.DiffHunkKind.TheVariants.{Matching}
use Rattle.jj_diff.specs.Inputs.{side}
use Rattle.jj_diff.specs.Tokens.{is_line_end}
use Rattle.jj_diff.specs.Ends.{IsCommonStart}
use Rattle.jj_diff.specs.Hunks.{row_of, AreTrimmed, IsDiff, matched_start}
use Rattle.jj_merges.specs.declared.merge.SameChange.{SameChange}
use Rattle.jj_merges.specs.Resolution.{ResolvesTo}
use Rattle.jj_content_merges.specs.Rows.{IsPrefixSplit}

-- the hunks compare the base with a side, line by line, and lines that both start with match
pub record IsComparison (base other : List ℕ) (hunks : List DiffHunk) : Type 0 where
  pub diff : IsDiff is_line_end (base ∷ other ∷ []) hunks
  pub start : (n : ℕ) → IsCommonStart is_line_end (base ∷ other ∷ []) n → n ≤ matched_start hunks
  pub trimmed : AreTrimmed is_line_end hunks

-- where hunk n starts in input i
abbrev pub hunk_start : ℕ → List DiffHunk → ℕ → ℕ
hunk_start i hunks n = length (side i (map row_of (take n hunks)))

-- the hunk at an index matches
abbrev pub IsMatching : List DiffHunk → ℕ → Type 0
IsMatching hunks n = (hunk : DiffHunk) → slice_index_or hunks n hunk ≡ hunk → hunk.kind ≡ Matching

-- byte k of the base is in a hunk that matches
pub record MatchesAt (hunks : List DiffHunk) (k : ℕ) : Type 0 where
  pub index : ℕ
  pub within : index < length hunks
  pub matching : IsMatching hunks index
  pub start : hunk_start 0 hunks index ≤ k
  pub end : k < hunk_start 0 hunks (index + 1)

-- none of these bytes of the base matches in both comparisons
abbrev pub NoneCommon : List DiffHunk → List DiffHunk → ℕ → ℕ → Type 0
NoneCommon lefts rights start end =
    (k : ℕ) → start ≤ k → k < end → MatchesAt lefts k → ¬ (MatchesAt rights k)

-- compared with each side, the base matches both nowhere between `start` and `end`
pub record HasNoneCommon (left base right : List ℕ) (start end : ℕ) : Type 0 where
  pub lefts : List DiffHunk
  pub rights : List DiffHunk
  pub left_compared : IsComparison base left lefts
  pub right_compared : IsComparison base right rights
  pub none : NoneCommon lefts rights start end

-- the row resolves, or has no line of the base that matches in comparisons with both sides
abbrev pub IsTight : SameChange → List ℕ → List ℕ → List ℕ → List (List ℕ) → ℕ → ℕ → Type 0
IsTight same left base right row start end =
    ((v : List ℕ) × ResolvesTo bytes_eq same row v) ⊎ HasNoneCommon left base right start end

-- each row of a three-way merge is such
abbrev pub AreTight : SameChange → List ℕ → List ℕ → List ℕ → List (List (List ℕ)) → Type 0
AreTight same left base right rows = (n : ℕ) → n < length rows
    → IsTight same left base right (slice_index_or rows n [])
    (length (side 1 (take n rows))) (length (side 1 (take (n + 1) rows)))

abbrev pub IsTightSplit : SameChange → List (List ℕ) → List (List (List ℕ)) → Type 0
IsTightSplit same [] rows = Unit {0}
IsTightSplit same (x ∷ []) rows = Unit {0}
IsTightSplit same (x ∷ y ∷ []) rows = Unit {0}
IsTightSplit same (left ∷ base ∷ right ∷ []) rows = AreTight same left base right rows
IsTightSplit same (x ∷ y ∷ z ∷ t ∷ ts) rows = Unit {0}

-- Machinery of private functions.

-- a walk along the hunks is at the start of hunk n
pub record IsAt (base other : List ℕ) (hunks : List DiffHunk) (n at_base at_other : ℕ)
    : Type 0 where
  pub compared : IsComparison base other hunks
  pub within : n ≤ length hunks
  pub base_start : at_base ≡ hunk_start 0 hunks n
  pub other_start : at_other ≡ hunk_start 1 hunks n

-- a walk is at a hunk that matches, and this offset of the base is in the hunk or at its end
pub record IsInside (base other : List ℕ) (hunks : List DiffHunk) (n at_base at_other offset : ℕ)
    : Type 0 where
  pub at : IsAt base other hunks n at_base at_other
  pub index : n < length hunks
  pub matching : IsMatching hunks n
  pub start : hunk_start 0 hunks n ≤ offset
  pub end : offset ≤ hunk_start 0 hunks (n + 1)

-- the offset of the side that this offset of the base matches
abbrev pub matched_offset : List DiffHunk → ℕ → ℕ → ℕ
matched_offset hunks n offset = hunk_start 1 hunks n + (offset - hunk_start 0 hunks n)

-- offset x of the side and offset k of the base are before hunk n, or in it, if it matches
abbrev pub IsBehind : List DiffHunk → ℕ → ℕ → ℕ → Type 0
IsBehind hunks n x k =
    ((x ≤ hunk_start 1 hunks n) × (k ≤ hunk_start 0 hunks n))
    ⊎ ((n < length hunks) × IsMatching hunks n × (hunk_start 0 hunks n ≤ k)
    × (k ≤ hunk_start 0 hunks (n + 1)) × (x ≡ matched_offset hunks n k))

-- byte k of the base is before hunk p of one comparison or before hunk q of the other
abbrev pub IsBefore : List DiffHunk → List DiffHunk → ℕ → ℕ → ℕ → Type 0
IsBefore lefts rights p q k = (k < hunk_start 0 lefts p) ⊎ (k < hunk_start 0 rights q)

-- or before the ends of both hunks
abbrev pub IsBeforeEnds : List DiffHunk → List DiffHunk → ℕ → ℕ → ℕ → Type 0
IsBeforeEnds lefts rights p q k = IsBefore lefts rights p q k
    ⊎ ((k < hunk_start 0 lefts (p + 1)) × (k < hunk_start 0 rights (q + 1)))

-- Rows up to `at` are tight, and no byte of the base after them that is past matches in both
-- comparisons.
pub record IsSwept (left base right : List ℕ) (lefts rights : List DiffHunk) (p q : ℕ)
    (past : ℕ → Type 0) (rows : List (List (List ℕ))) (at : List ℕ) : Type 0 where
  pub split : IsPrefixSplit is_line_end (left ∷ base ∷ right ∷ []) rows at
  pub tight : (same : SameChange) → AreTight same left base right rows
  pub left_behind : IsBehind lefts p (slice_index at 0) (slice_index at 1)
  pub right_behind : IsBehind rights q (slice_index at 2) (slice_index at 1)
  pub reached : (k : ℕ) → k < slice_index at 1 → past k
  pub none : (k : ℕ) → slice_index at 1 ≤ k → past k → MatchesAt lefts k → ¬ (MatchesAt rights k)
