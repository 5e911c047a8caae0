-- Whole lines of byte strings, and hunks of two versions.
-- Cited by contracts of public items: EndsInLine, StartsApart, EndsApart, SharesNoLine,
-- SharesNoLineBy, KeepsLines, HasEqualParts, HasBytes, AreWholeLines.
use Rattle.std.specs.Prelude.{◌≡◌, ◌⊎◌, ℕ, ◌-◌, ◌<◌, ◌≤◌, ◌++◌, List, [], ◌∷◌, length, map, filter, All, Any, slice_index}
use Rattle.std.specs.List.{range_with_len, slice_index_or}
use Rattle.jj_diff.specs.declared.diff.hunks.DiffHunk.{DiffHunk}
use Rattle.jj_diff.specs.declared.diff.hunks.DiffHunkKind.TheVariants.{Matching, Different}
use Rattle.jj_diff.specs.Inputs.{side}
use Rattle.jj_diff.specs.Tokens.{is_line_end}
use Rattle.jj_diff.specs.Anchors.{StandsAt, StandsOnce, StandsOnceBy, token_offsets}
use Rattle.jj_diff.specs.Hunks.{row_of}

-- nothing, or a byte string that ends in LF
abbrev pub EndsInLine : List ℕ → Type 0
EndsInLine lines = (lines ≡ []) ⊎ (slice_index lines (length lines - 1) ≡ 10)

-- a hunk that differs, and whose two parts do not start with the same lines
abbrev pub StartsApart : DiffHunk → Type 0
StartsApart hunk = hunk.kind ≡ Different → (line xs ys : List ℕ) → EndsInLine line
    → row_of hunk ≡ (line ++ xs) ∷ (line ++ ys) ∷ [] → line ≡ []

-- a hunk that differs, and whose two parts do not end with the same lines
abbrev pub EndsApart : DiffHunk → Type 0
EndsApart hunk = hunk.kind ≡ Different → (xs ys line : List ℕ) → EndsInLine xs → EndsInLine ys
    → row_of hunk ≡ (xs ++ line) ∷ (ys ++ line) ∷ [] → line ≡ []

-- at most 64 lines
abbrev pub HasFewLines : List ℕ → Type 0
HasFewLines text = length (filter (is_line_end text) (range_with_len 1 (length text))) ≤ 64

-- a hunk that differs; if each of its two parts has at most 64 lines, then there is no canonical
-- form of which both have exactly one line
abbrev pub SharesNoLineBy : (List ℕ → List ℕ) → DiffHunk → Type 0
SharesNoLineBy form hunk = hunk.kind ≡ Different → (left right line : List ℕ)
    → row_of hunk ≡ left ∷ right ∷ [] → HasFewLines left → HasFewLines right
    → StandsOnceBy form is_line_end left line → ¬ (StandsOnceBy form is_line_end right line)

-- a hunk that differs, and no line of which is exactly once in both of its parts, if each part has
-- at most 64 lines
abbrev pub SharesNoLine : DiffHunk → Type 0
SharesNoLine = SharesNoLineBy (λ text. text)

-- part i of the hunk
abbrev pub part_of : ℕ → DiffHunk → List ℕ
part_of i hunk = slice_index_or (row_of hunk) i []

-- if the hunk matches, its two parts have one canonical form
abbrev pub HasEqualParts : (List ℕ → List ℕ) → DiffHunk → Type 0
HasEqualParts form hunk = hunk.kind ≡ Matching → form (part_of 0 hunk) ≡ form (part_of 1 hunk)

-- not both parts are empty
abbrev pub HasBytes : DiffHunk → Type 0
HasBytes hunk = (0 < length (part_of 0 hunk)) ⊎ (0 < length (part_of 1 hunk))

-- part i of the earlier hunks ends with a line, or is the whole version
abbrev pub EndInLine : ℕ → List ℕ → List DiffHunk → Type 0
EndInLine i version earlier = EndsInLine (side i (map row_of earlier))
    ⊎ (side i (map row_of earlier) ≡ version)

-- each hunk ends with a line, or with the version
pub record AreWholeLines (left right : List ℕ) (hunks : List DiffHunk) : Type 0 where
  pub left_lines : (earlier later : List DiffHunk) → hunks ≡ earlier ++ later
      → EndInLine 0 left earlier
  pub right_lines : (earlier later : List DiffHunk) → hunks ≡ earlier ++ later
      → EndInLine 1 right earlier

-- the byte string has the line
abbrev pub HasLine : List ℕ → List ℕ → Type 0
HasLine line text = (k : ℕ) × StandsAt text (token_offsets is_line_end text) line k

-- part i of some hunk has the line
abbrev pub PartsHave : ℕ → List ℕ → List DiffHunk → Type 0
PartsHave i line = Any (λ hunk. HasLine line (part_of i hunk))

-- both parts of a hunk that matches have the line
abbrev pub LineMatches : List ℕ → List DiffHunk → Type 0
LineMatches line = Any (λ hunk. (hunk.kind ≡ Matching) × HasLine line (part_of 0 hunk)
    × HasLine line (part_of 1 hunk))

-- The line is before a hunk that matches in one version, and after it in the other.
pub record LineCrosses (line : List ℕ) (hunks : List DiffHunk) : Type 0 where
  pub earlier : List DiffHunk
  pub between : DiffHunk
  pub later : List DiffHunk
  pub split : hunks ≡ earlier ++ between ∷ later
  pub matching : between.kind ≡ Matching
  pub crossed : (PartsHave 0 line earlier × PartsHave 1 line later)
      ⊎ (PartsHave 1 line earlier × PartsHave 0 line later)

-- each hunk that differs has at most 64 lines of each version
abbrev pub HasSmallChanges : List DiffHunk → Type 0
HasSmallChanges = All (λ hunk. hunk.kind ≡ Different
    → HasFewLines (part_of 0 hunk) × HasFewLines (part_of 1 hunk))

-- A line that is exactly once in each version matches, or is before a hunk that matches in one
-- version and after it in the other, if hunks that differ have at most 64 lines.
pub record KeepsLines (left right : List ℕ) (hunks : List DiffHunk) : Type 0 where
  pub each : HasSmallChanges hunks → (line : List ℕ) → StandsOnce is_line_end left line
      → StandsOnce is_line_end right line → LineMatches line hunks ⊎ LineCrosses line hunks
