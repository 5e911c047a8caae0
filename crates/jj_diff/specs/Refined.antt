-- Refined comparisons: each hunk that differs is replaced by a comparison of its parts.
-- Cited by contracts of public items: AreHunksOf, IsRefined, IsRefinedLines, KeepsMatches,
-- KeepsEnds.
use Rattle.std.specs.Prelude.{◌≡◌, ℕ, ◌<◌, ◌≤◌, List, [], ◌∷◌, ◌++◌, ◌+◌, length, map, take, drop, All, slice_index}
use Rattle.std.specs.List.{slice_index_or}
use Rattle.jj_diff.specs.Tokens.{TokenEnds, is_line_end, is_word_end}
use Rattle.jj_diff.specs.declared.diff.hunks.DiffHunk.{DiffHunk}
use Rattle.jj_diff.specs.declared.diff.hunks.DiffHunkKind.{DiffHunkKind}
use Rattle.jj_diff.specs.declared.diff.hunks.DiffHunkKind.TheVariants.{Matching, Different}
use Rattle.jj_diff.specs.Inputs.{side, AreEqualBy}
use Rattle.jj_diff.specs.Hunks.{row_of, IsDiff, IsDiffBy, MatchesEnds, AreTrimmed, AreTrimmedBy, AllMatch, matched_start, matched_end}

-- the hunks have a part of each input, and parts i of all hunks are input i
pub record AreHunksOf (inputs : List (List ℕ)) (hunks : List DiffHunk) : Type 0 where
  pub width : All (λ hunk. length (row_of hunk) ≡ length inputs) hunks
  pub sides : (i : ℕ) → i < length inputs → side i (map row_of hunks) ≡ slice_index_or inputs i []

-- a hunk as its kind and its part of each input
abbrev pub View : Type 0
View = DiffHunkKind × List (List ℕ)

abbrev pub view_of : DiffHunk → View
view_of hunk = (hunk.kind, row_of hunk)

-- the parts of the first row, each followed by that of the second
abbrev pub append_rows : List (List ℕ) → List (List ℕ) → List (List ℕ)
append_rows [] ys = ys
append_rows (x ∷ xs) [] = x ∷ xs
append_rows (x ∷ xs) (y ∷ ys) = (x ++ y) ∷ append_rows xs ys

-- two hunks of these kinds before others: they are one if both match
abbrev pub join_kinds : DiffHunkKind → DiffHunkKind → View → View → List View → List View
join_kinds Matching Matching v w vs = (Matching, append_rows v.1 w.1) ∷ vs
join_kinds Matching Different v w vs = v ∷ w ∷ vs
join_kinds Different Matching v w vs = v ∷ w ∷ vs
join_kinds Different Different v w vs = v ∷ w ∷ vs

-- a hunk before others, which is joined with the next one if both match
abbrev pub join_first : View → List View → List View
join_first v [] = v ∷ []
join_first v (w ∷ vs) = join_kinds v.0 w.0 v w vs

-- the hunks, in which adjacent matching ones are one
abbrev pub joined : List View → List View
joined [] = []
joined (v ∷ vs) = join_first v (joined vs)

-- The hunks compare a row of parts, and match where it starts and ends alike. If the parts are
-- equal, all hunks match.
pub record IsRowDiff (form : List ℕ → List ℕ) (is_end : TokenEnds) (row : List (List ℕ))
    (hunks : List DiffHunk) : Type 0 where
  pub diff : IsDiffBy form is_end row hunks
  pub ends : MatchesEnds is_end row hunks
  pub trimmed : AreTrimmedBy form is_end hunks
  pub identity : AreEqualBy form row → AllMatch hunks

-- a hunk that matches is left as it is, and one that differs becomes a comparison of its parts
pub record IsRefinement (form : List ℕ → List ℕ) (is_end : TokenEnds) (hunk : DiffHunk)
    (hunks : List DiffHunk) : Type 0 where
  pub matching : hunk.kind ≡ Matching → map view_of hunks ≡ view_of hunk ∷ []
  pub different : hunk.kind ≡ Different → IsRowDiff form is_end (row_of hunk) hunks

-- the refinements of the hunks, one after the other
abbrev pub AreRefinements : (List ℕ → List ℕ) → TokenEnds → List DiffHunk → List DiffHunk → Type 0
AreRefinements form is_end [] refined = refined ≡ []
AreRefinements form is_end (hunk ∷ hunks) refined = (first rest : List DiffHunk)
    × (refined ≡ first ++ rest) × IsRefinement form is_end hunk first
    × AreRefinements form is_end hunks rest

-- Hunks that matched are as they were, those that differed are compared again by their parts, and
-- then adjacent matching ones are one.
abbrev pub IsRefined : (List ℕ → List ℕ) → TokenEnds → List DiffHunk → List DiffHunk → Type 0
IsRefined form is_end hunks refined = (parts : List DiffHunk)
    × AreRefinements form is_end hunks parts
    × (map view_of refined ≡ joined (map view_of parts))

-- A hunk after others is part of a matching one: of n inputs the part before it is as it was.
pub record StaysMatched (n : ℕ) (before : List DiffHunk) (hunk : DiffHunk) (refined : List DiffHunk)
    : Type 0 where
  pub earlier : List DiffHunk
  pub around : DiffHunk
  pub later : List DiffHunk
  pub split : refined ≡ earlier ++ around ∷ later
  pub matching : around.kind ≡ Matching
  pub start : ℕ → List ℕ
  pub end : ℕ → List ℕ
  pub part : (i : ℕ) → i < n → slice_index_or (row_of around) i []
      ≡ start i ++ (slice_index_or (row_of hunk) i [] ++ end i)
  pub place : (i : ℕ) → i < n
      → side i (map row_of earlier) ++ start i ≡ side i (map row_of before)

-- each hunk that matched is part of a matching one, at the same index of each of n inputs
abbrev pub KeepsMatches : ℕ → List DiffHunk → List DiffHunk → Type 0
KeepsMatches n hunks refined = (before after : List DiffHunk) → (hunk : DiffHunk)
    → hunks ≡ before ++ hunk ∷ after → hunk.kind ≡ Matching → StaysMatched n before hunk refined

-- as many bytes as before match at the start and at the end, or more
abbrev pub KeepsEnds : List DiffHunk → List DiffHunk → Type 0
KeepsEnds hunks refined =
    (matched_start hunks ≤ matched_start refined) × (matched_end hunks ≤ matched_end refined)

-- the hunks are those of a comparison by lines, refined by words
pub record IsRefinedLines (inputs : List (List ℕ)) (refined : List DiffHunk) : Type 0 where
  pub lines : List DiffHunk
  pub diff : IsDiff is_line_end inputs lines
  pub ends : MatchesEnds is_line_end inputs lines
  pub trimmed : AreTrimmed is_line_end lines
  pub words : IsRefined (λ text. text) is_word_end lines refined
  pub kept : KeepsMatches (length inputs) lines refined

-- Machinery of private functions.

-- part i of each hunk, concatenated
abbrev pub view_side : ℕ → List View → List ℕ
view_side i vs = side i (map (λ v. v.1) vs)

-- two rows of parts, each of which is followed by that of the second in its input
pub record AreAdjacent (inputs : List (List ℕ)) (starts : List ℕ) (first second : List (List ℕ))
    : Type 0 where
  pub first_len : length first ≡ length inputs
  pub second_len : length second ≡ length inputs
  pub within : (i : ℕ) → i < length inputs → slice_index starts i
      + (length (slice_index_or first i []) + length (slice_index_or second i []))
      ≤ length (slice_index_or inputs i [])
  pub parts : (i : ℕ) → i < length inputs
      → take (length (slice_index_or first i []) + length (slice_index_or second i []))
      (drop (slice_index starts i) (slice_index_or inputs i []))
      ≡ slice_index_or first i [] ++ slice_index_or second i []

-- the property of each element, by recursion
abbrev pub Each : (View → Type 0) → List View → Type 0
Each P [] = Unit {0}
Each P (v ∷ vs) = P v × Each P vs

-- the inputs consist of these hunks from `starts` on
pub record StartAt (inputs : List (List ℕ)) (starts : List ℕ) (vs : List View) : Type 0 where
  pub width : Each (λ v. length v.1 ≡ length inputs) vs
  pub within : (i : ℕ) → i < length inputs
      → slice_index starts i ≤ length (slice_index_or inputs i [])
  pub sides : (i : ℕ) → i < length inputs
      → drop (slice_index starts i) (slice_index_or inputs i []) ≡ view_side i vs
