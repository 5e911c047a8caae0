-- Hunks of a unified diff.
-- Cited by contracts of public items: IsPatch, HasContext.
use Rattle.std.specs.Prelude.{◌≡◌, ℕ, ◌+◌, ◌-◌, ◌^◌, ◌≤◌, ◌<◌, min, if◌then◌else◌, List, [], ◌∷◌, length, take, drop}
use Rattle.std.specs.List.{slice_range, prefix_len, fold}
use Rattle.jj_diff_presentation.specs.declared.unified.script.DiffLine.{DiffLine}
use Rattle.jj_diff_presentation.specs.declared.unified.hunks.UnifiedDiffHunk.{UnifiedDiffHunk}
use Rattle.jj_diff_presentation.specs.Scripts.{left_lines, right_lines, is_context}

-- The ranges of a hunk are within the lines of both sides, and from lines i and j on. The lines
-- before them are equal on both sides. The hunk's lines are those of the ranges.
pub record IsHunkAfter (left right : List (List ℕ)) (i j : ℕ) (hunk : UnifiedDiffHunk)
    : Type 0 where
  pub left_start : i ≤ hunk.left_line_range.start
  pub left_end : hunk.left_line_range.start ≤ hunk.left_line_range.end
  pub left_within : hunk.left_line_range.end ≤ length left
  pub right_start : j ≤ hunk.right_line_range.start
  pub right_end : hunk.right_line_range.start ≤ hunk.right_line_range.end
  pub right_within : hunk.right_line_range.end ≤ length right
  pub equal : slice_range left i hunk.left_line_range.start
      ≡ slice_range right j hunk.right_line_range.start
  pub left_lines : left_lines hunk.lines.items
      ≡ slice_range left hunk.left_line_range.start hunk.left_line_range.end
  pub right_lines : right_lines hunk.lines.items
      ≡ slice_range right hunk.right_line_range.start hunk.right_line_range.end

-- from lines i and j on, the sides differ only in the ranges of these hunks
abbrev pub IsPatchFrom : List (List ℕ) → List (List ℕ) → ℕ → ℕ → List UnifiedDiffHunk → Type 0
IsPatchFrom left right i j [] = drop i left ≡ drop j right
IsPatchFrom left right i j (hunk ∷ hunks) = IsHunkAfter left right i j hunk
    × IsPatchFrom left right hunk.left_line_range.end hunk.right_line_range.end hunks

-- The hunks' ranges ascend and are disjoint, each hunk's lines are those of its ranges, and all
-- lines outside the ranges are equal on both sides, line by line.
abbrev pub IsPatch : List (List ℕ) → List (List ℕ) → List UnifiedDiffHunk → Type 0
IsPatch left right hunks = IsPatchFrom left right 0 0 hunks

-- the number of context lines before the first change
abbrev pub leading_context : List DiffLine → ℕ
leading_context lines = prefix_len is_context lines

-- the number of context lines after the last change
abbrev pub trailing_context : List DiffLine → ℕ
trailing_context lines = fold (λ n line. if is_context line then n + 1 else 0) 0 lines

-- The hunk has a change, after as many context lines as there are from line `end` on, at most
-- `context`; so many context lines are also at the end of the hunk before, which has `trail`.
pub record HasContextAfter (context end trail : ℕ) (hunk : UnifiedDiffHunk) : Type 0 where
  pub changed : leading_context hunk.lines.items < length hunk.lines.items
  pub leading : leading_context hunk.lines.items
      ≡ min context (hunk.left_line_range.start - end + leading_context hunk.lines.items)
  pub trailing : trail ≡ min context (trail + (hunk.left_line_range.start - end))

-- `least` is the first line where the next hunk may start
abbrev pub HasContextFrom : ℕ → ℕ → ℕ → ℕ → ℕ → List UnifiedDiffHunk → Type 0
HasContextFrom context total least end trail [] = trail ≡ min context (trail + (total - end))
HasContextFrom context total least end trail (hunk ∷ hunks) =
    (least ≤ hunk.left_line_range.start) × HasContextAfter context end trail hunk
    × HasContextFrom context total (hunk.left_line_range.end + 1) hunk.left_line_range.end
    (trailing_context hunk.lines.items) hunks

-- Each hunk has a change, and before the first and after the last one `context` lines, or all that
-- there are up to the next hunk or the end of the file, which has `total` lines. At least one line
-- is between two hunks.
abbrev pub HasContext : ℕ → ℕ → List UnifiedDiffHunk → Type 0
HasContext context total hunks = HasContextFrom context total 0 0 context hunks

-- Machinery of private functions.

-- the ranges start before they end, at numbers whose successors fit
pub record HasRanges (hunk : UnifiedDiffHunk) : Type 0 where
  pub left_order : hunk.left_line_range.start ≤ hunk.left_line_range.end
  pub left_fits : hunk.left_line_range.start < 2 ^ 64 - 1
  pub right_order : hunk.right_line_range.start ≤ hunk.right_line_range.end
  pub right_fits : hunk.right_line_range.start < 2 ^ 64 - 1

-- a hunk that begins with the first of these lines has n lines: after the last change there are
-- `context` lines or all that are left, and more than `context` lines before another change
pub record IsHunkEnd (lines : List DiffLine) (context n : ℕ) : Type 0 where
  pub trailing : trailing_context (take n lines) ≤ context
  pub full : n < length lines → trailing_context (take n lines) ≡ context
  pub next : leading_context (drop n lines) < length (drop n lines)
      → context < leading_context (drop n lines)
