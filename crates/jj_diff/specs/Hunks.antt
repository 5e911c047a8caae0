-- Hunks of a comparison.
-- Cited by contracts of public items: AllMatch, AreTrimmed, AreTrimmedBy, IsDiff, IsDiffBy,
-- MatchesEnds, hunk_ranges, matched_start.
use Rattle.std.specs.Prelude.{◌≡◌, ◌≢◌, ℕ, ◌+◌, ◌-◌, ◌<◌, ◌≤◌, List, [], ◌∷◌, length, map, take, All, slice_index}
use Rattle.std.specs.List.{slice_index_or, slice_range}
use Rattle.std.specs.declared.ops.Range.{Range}
use Rattle.jj_diff.specs.declared.diff.hunks.DiffHunk.{DiffHunk}
use Rattle.jj_diff.specs.declared.diff.hunks.DiffHunkKind.{DiffHunkKind}
use Rattle.jj_diff.specs.declared.diff.hunks.DiffHunkKind.TheVariants.{Matching, Different}
use Rattle.jj_diff.specs.Inputs.{bytes_of, side, AreEqualBy, IsNonempty, AreRanges, AreParts}
use Rattle.jj_diff.specs.Tokens.{IsCut, TokenEnds}
use Rattle.jj_diff.specs.Ends.{IsCommonStart, IsCommonEnd}
use Rattle.jj_diff.specs.Anchors.{HasFewTokens, IsCommonTokenBy}

-- the hunk's part of each input
abbrev pub row_of : DiffHunk → List (List ℕ)
row_of hunk = bytes_of hunk.contents.items

-- no two adjacent kinds are equal
abbrev pub Alternate : List DiffHunkKind → Type 0
Alternate [] = Unit {0}
Alternate (k ∷ []) = Unit {0}
Alternate (k ∷ l ∷ ks) = (k ≢ l) × Alternate (l ∷ ks)

-- a part of each of n inputs, not all empty, and all with one canonical form if the hunk matches
pub record IsHunkBy (form : List ℕ → List ℕ) (n : ℕ) (hunk : DiffHunk) : Type 0 where
  pub len : length (row_of hunk) ≡ n
  pub nonempty : IsNonempty (row_of hunk)
  pub equal : hunk.kind ≡ Matching → AreEqualBy form (row_of hunk)

-- The hunks compare the inputs: parts i of all hunks are input i, kinds alternate, no hunk is empty
-- in all inputs, the parts of a matching hunk have one canonical form, and no hunk starts or ends
-- within a token.
pub record IsDiffBy (form : List ℕ → List ℕ) (is_end : TokenEnds) (inputs : List (List ℕ))
    (diff : List DiffHunk) : Type 0 where
  pub sides : (i : ℕ) → i < length inputs
      → side i (map row_of diff) ≡ slice_index_or inputs i []
  pub hunks : All (IsHunkBy form (length inputs)) diff
  pub alternate : Alternate (map (λ hunk. hunk.kind) diff)
  pub cuts : (k i : ℕ) → k ≤ length diff → i < length inputs
      → IsCut is_end (slice_index_or inputs i []) (length (side i (map row_of (take k diff))))

-- a part of each of n inputs, not all empty, and all equal if the hunk matches
abbrev pub IsHunk : ℕ → DiffHunk → Type 0
IsHunk = IsHunkBy (λ text. text)

-- the hunks compare the inputs, and matching hunks have equal parts
abbrev pub IsDiff : TokenEnds → List (List ℕ) → List DiffHunk → Type 0
IsDiff = IsDiffBy (λ text. text)

-- where part i of each hunk is, if the first one is at `start` and each other one follows the one
-- before it
abbrev pub hunk_ranges : ℕ → ℕ → List DiffHunk → List (Range ℕ)
hunk_ranges i start [] = []
hunk_ranges i start (hunk ∷ hunks) =
    record { start = start; end = start + length (slice_index_or (row_of hunk) i []) }
    ∷ hunk_ranges i (start + length (slice_index_or (row_of hunk) i [])) hunks

-- not all parts of the row start with the same tokens, and not all end with the same tokens
pub record HasTrimmedEnds (is_end : TokenEnds) (row : List (List ℕ)) : Type 0 where
  pub start : (n : ℕ) → IsCommonStart is_end row n → n ≡ 0
  pub end : (n : ℕ) → IsCommonEnd is_end row 0 n → n ≡ 0

-- The parts of the row do not all start with the same tokens, nor all end with the same tokens. If
-- each part has at most 64 tokens, then for no canonical form each has exactly one token of it.
pub record IsTrimmedBy (form : List ℕ → List ℕ) (is_end : TokenEnds) (row : List (List ℕ))
    : Type 0 where
  pub start : (n : ℕ) → IsCommonStart is_end row n → n ≡ 0
  pub end : (n : ℕ) → IsCommonEnd is_end row 0 n → n ≡ 0
  pub once : HasFewTokens is_end row
      → (token : List ℕ) → ¬ (IsCommonTokenBy form is_end row token)

-- No hunk that differs starts with a token that is equal in all inputs, nor ends with one, nor has,
-- if the parts have at most 64 tokens, one whose canonical form occurs exactly once in each part.
abbrev pub AreTrimmedBy : (List ℕ → List ℕ) → TokenEnds → List DiffHunk → Type 0
AreTrimmedBy form is_end =
    All (λ hunk. hunk.kind ≡ Different → IsTrimmedBy form is_end (row_of hunk))

-- no hunk that differs starts or ends with a token that is equal in all inputs, nor has one that
-- occurs exactly once in each part, if the parts have at most 64 tokens
abbrev pub AreTrimmed : TokenEnds → List DiffHunk → Type 0
AreTrimmed = AreTrimmedBy (λ text. text)

-- no hunk differs; since kinds alternate, there is at most one
abbrev pub AllMatch : List DiffHunk → Type 0
AllMatch = All (λ hunk. hunk.kind ≡ Matching)

abbrev pub kind_len : DiffHunkKind → ℕ → ℕ
kind_len Matching n = n
kind_len Different n = 0

-- the length of the first part of a matching hunk, and 0 for another hunk
abbrev pub matched_len : DiffHunk → ℕ
matched_len hunk = kind_len hunk.kind (length (slice_index_or (row_of hunk) 0 []))

-- how many bytes match before the first difference
abbrev pub matched_start : List DiffHunk → ℕ
matched_start [] = 0
matched_start (h ∷ hs) = matched_len h

-- how many bytes match after the last difference
abbrev pub matched_end : List DiffHunk → ℕ
matched_end [] = 0
matched_end (h ∷ []) = matched_len h
matched_end (h ∷ i ∷ hs) = matched_end (i ∷ hs)

-- The tokens that all inputs start with match, and of the rest the tokens that all end with.
pub record MatchesEnds (is_end : TokenEnds) (inputs : List (List ℕ)) (diff : List DiffHunk)
    : Type 0 where
  pub start : (n : ℕ) → IsCommonStart is_end inputs n → n ≤ matched_start diff
  pub end : (n : ℕ) → IsCommonEnd is_end inputs (matched_start diff) n → n ≤ matched_end diff

-- Machinery of private functions.

-- the hunks compare the inputs up to `ends`
pub record IsPrefixDiff (form : List ℕ → List ℕ) (is_end : TokenEnds) (inputs : List (List ℕ))
    (diff : List DiffHunk) (ends : List ℕ) : Type 0 where
  pub len : length ends ≡ length inputs
  pub within : (i : ℕ) → i < length inputs
      → slice_index ends i ≤ length (slice_index_or inputs i [])
  pub sides : (i : ℕ) → i < length inputs
      → side i (map row_of diff) ≡ take (slice_index ends i) (slice_index_or inputs i [])
  pub hunks : All (IsHunkBy form (length inputs)) diff
  pub alternate : Alternate (map (λ hunk. hunk.kind) diff)
  pub cuts : (k i : ℕ) → k ≤ length diff → i < length inputs
      → IsCut is_end (slice_index_or inputs i []) (length (side i (map row_of (take k diff))))

-- each offset is a cut of its input
abbrev pub AreCuts : TokenEnds → List (List ℕ) → List ℕ → Type 0
AreCuts is_end inputs offsets = (i : ℕ) → i < length inputs
    → IsCut is_end (slice_index_or inputs i []) (slice_index offsets i)

-- there is no hunk, or the last one is of this kind
abbrev pub EndsIn : DiffHunkKind → List DiffHunk → Type 0
EndsIn k [] = Unit {0}
EndsIn k (h ∷ []) = h.kind ≡ k
EndsIn k (h ∷ i ∷ hs) = EndsIn k (i ∷ hs)

-- some range from `starts` to `ends` is not empty
abbrev pub HasGap : List (List ℕ) → List ℕ → List ℕ → Type 0
HasGap inputs starts ends =
    (i : ℕ) × (i < length inputs) × (slice_index starts i < slice_index ends i)

-- the ranges from `starts` to `ends` have one canonical form
abbrev pub AreRangesEqual : (List ℕ → List ℕ) → List (List ℕ) → List ℕ → List ℕ → Type 0
AreRangesEqual form inputs starts ends = (i : ℕ) → i < length inputs
    → form (slice_range (slice_index_or inputs i []) (slice_index starts i) (slice_index ends i))
    ≡ form (slice_range (slice_index_or inputs 0 []) (slice_index starts 0) (slice_index ends 0))

-- the ranges from `starts` to `ends` match, and end at tokens
pub record IsMatch (form : List ℕ → List ℕ) (is_end : TokenEnds) (inputs : List (List ℕ))
    (starts ends : List ℕ) : Type 0 where
  pub ranges : AreRanges inputs starts ends
  pub cuts : AreCuts is_end inputs ends
  pub equal : AreRangesEqual form inputs starts ends

-- the first n bytes match, as hunks or, where there is none yet, up to `at`
abbrev pub StartsWith : ℕ → List DiffHunk → List ℕ → Type 0
StartsWith n [] at = n ≤ slice_index at 0
StartsWith n (h ∷ hs) at = n ≤ matched_len h

-- each offset is n
pub record AreStarts (inputs : List (List ℕ)) (n : ℕ) (offsets : List ℕ) : Type 0 where
  pub len : length offsets ≡ length inputs
  pub starts : (i : ℕ) → i < length inputs → slice_index offsets i ≡ n

-- each offset is that of the last n bytes
pub record AreLimits (inputs : List (List ℕ)) (n : ℕ) (offsets : List ℕ) : Type 0 where
  pub len : length offsets ≡ length inputs
  pub limits : (i : ℕ) → i < length inputs
      → slice_index offsets i ≡ length (slice_index_or inputs i []) - n

-- each offset is n more than its start
pub record AreMoved (inputs : List (List ℕ)) (starts : List ℕ) (n : ℕ) (offsets : List ℕ)
    : Type 0 where
  pub len : length offsets ≡ length inputs
  pub moved : (i : ℕ) → i < length inputs → slice_index offsets i ≡ slice_index starts i + n

-- each offset is the sum of a start and an offset after it
pub record AreSums (inputs : List (List ℕ)) (starts offsets sums : List ℕ) : Type 0 where
  pub len : length sums ≡ length inputs
  pub sums_of : (i : ℕ) → i < length inputs
      → slice_index sums i ≡ slice_index starts i + slice_index offsets i

-- each offset is n less than its end
pub record AreMovedBack (inputs : List (List ℕ)) (ends : List ℕ) (n : ℕ) (offsets : List ℕ)
    : Type 0 where
  pub len : length offsets ≡ length inputs
  pub moved : (i : ℕ) → i < length inputs → slice_index offsets i + n ≡ slice_index ends i

-- Between `starts` and `ends` all inputs are equal up to `gap_starts` and from `gap_ends` on, and
-- the rows between are trimmed.
pub record IsTrimmedGap (is_end : TokenEnds) (inputs : List (List ℕ))
    (starts ends gap_starts gap_ends : List ℕ) : Type 0 where
  pub before : IsMatch (λ text. text) is_end inputs starts gap_starts
  pub ranges : AreRanges inputs gap_starts gap_ends
  pub cuts : AreCuts is_end inputs gap_ends
  pub after : IsMatch (λ text. text) is_end inputs gap_ends ends
  pub trimmed : (row : List (List ℕ)) → AreParts inputs gap_starts gap_ends row
      → HasTrimmedEnds is_end row

-- The hunks compare the inputs up to `from`, and from there to `at` the inputs match.
pub record IsProgress (form : List ℕ → List ℕ) (is_end : TokenEnds) (inputs : List (List ℕ))
    (hunks : List DiffHunk) (from at : List ℕ) : Type 0 where
  pub prefix : IsPrefixDiff form is_end inputs hunks from
  pub trimmed : AreTrimmedBy form is_end hunks
  pub last : EndsIn Different hunks
  pub pending : IsMatch form is_end inputs from at

-- After `at` the inputs have a region that matches, is not empty and ends before `limits`.
pub record IsRegion (form : List ℕ → List ℕ) (is_end : TokenEnds) (inputs : List (List ℕ))
    (at starts ends limits : List ℕ) : Type 0 where
  pub before : AreRanges inputs at starts
  pub cuts : AreCuts is_end inputs starts
  pub next : IsMatch form is_end inputs starts ends
  pub gap : HasGap inputs starts ends
  pub after : AreRanges inputs ends limits
