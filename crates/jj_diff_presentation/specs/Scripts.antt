-- Lines of a diff, and the lines of both sides in them.
-- Cited by contracts of public items: left_lines, right_lines, AreComparedLines, AreContext.
use Rattle.std.specs.Prelude.{◌≡◌, ℕ, Bool, true, false, List, [], ◌∷◌, ◌++◌, map}
use Rattle.std.specs.List.{slice_index_or, list_all}
use Rattle.jj_diff.specs.Tokens.{is_line_end}
use Rattle.jj_diff.specs.Hunks.{row_of, AreTrimmed, IsDiff, MatchesEnds}
use Rattle.jj_diff.specs.declared.diff.hunks.DiffHunk.{DiffHunk}
use Rattle.jj_diff.specs.declared.diff.hunks.DiffHunkKind.{DiffHunkKind}
use Rattle.jj_diff.specs.declared.diff.hunks.DiffHunkKind.TheVariants.{Matching, Different}
use Rattle.jj_diff_presentation.specs.Lines.{split_lines}
use Rattle.jj_diff_presentation.specs.declared.unified.script.DiffLine.{DiffLine}
use Rattle.jj_diff_presentation.specs.declared.unified.script.DiffLineType.{DiffLineType}
use Rattle.jj_diff_presentation.specs.declared.unified.script.DiffLineType.TheVariants.{Context, Removed, Added}

-- the lines, unless the left side lacks lines of this type
abbrev pub on_left : DiffLineType → List (List ℕ) → List (List ℕ)
on_left Context lines = lines
on_left Removed lines = lines
on_left Added lines = []

-- the lines, unless the right side lacks lines of this type
abbrev pub on_right : DiffLineType → List (List ℕ) → List (List ℕ)
on_right Context lines = lines
on_right Removed lines = []
on_right Added lines = lines

-- the lines of the left side: context lines and removed lines
abbrev pub left_lines : List DiffLine → List (List ℕ)
left_lines [] = []
left_lines (l ∷ ls) = on_left l.line_type (l.content.now ∷ []) ++ left_lines ls

-- the lines of the right side: context lines and added lines
abbrev pub right_lines : List DiffLine → List (List ℕ)
right_lines [] = []
right_lines (l ∷ ls) = on_right l.line_type (l.content.now ∷ []) ++ right_lines ls

-- the type is that of a line in both versions
abbrev pub is_context_type : DiffLineType → Bool
is_context_type Context = true
is_context_type Removed = false
is_context_type Added = false

-- the line is in both versions
abbrev pub is_context : DiffLine → Bool
is_context line = is_context_type line.line_type

-- no line is removed or added
abbrev pub AreContext : List DiffLine → Type 0
AreContext lines = list_all is_context lines ≡ true

-- Machinery of private functions.

-- the lines of part i of each hunk
abbrev pub lines_of_parts : ℕ → List DiffHunk → List (List ℕ)
lines_of_parts i [] = []
lines_of_parts i (h ∷ hs) = split_lines (slice_index_or (row_of h) i []) ++ lines_of_parts i hs

-- each line with this type
abbrev pub lines_of_type : DiffLineType → List (List ℕ) → List (DiffLineType × List ℕ)
lines_of_type line_type lines = map (λ line. (line_type, line)) lines

-- the types and contents of lines
abbrev pub typed_lines : List DiffLine → List (DiffLineType × List ℕ)
typed_lines [] = []
typed_lines (l ∷ ls) = (l.line_type, l.content.now) ∷ typed_lines ls

-- the lines of a hunk: those that match, or the removed ones and then the added ones
abbrev pub lines_of_kind : DiffHunkKind → List (List ℕ) → List (List ℕ)
    → List (DiffLineType × List ℕ)
lines_of_kind Matching left right = lines_of_type Context left
lines_of_kind Different left right = lines_of_type Removed left ++ lines_of_type Added right

-- the lines of the hunks
abbrev pub script_of : List DiffHunk → List (DiffLineType × List ℕ)
script_of [] = []
script_of (h ∷ hs) = lines_of_kind h.kind (split_lines (slice_index_or (row_of h) 0 []))
    (split_lines (slice_index_or (row_of h) 1 [])) ++ script_of hs

-- The lines are those of a comparison: lines that both sides start with, or end with, are context,
-- and none that differs is once on each side of a change of at most 64 lines.
pub record AreComparedLines (left right : List ℕ) (lines : List DiffLine) : Type 0 where
  pub hunks : List DiffHunk
  pub diff : IsDiff is_line_end (left ∷ right ∷ []) hunks
  pub ends : MatchesEnds is_line_end (left ∷ right ∷ []) hunks
  pub trimmed : AreTrimmed is_line_end hunks
  pub script : typed_lines lines ≡ script_of hunks
