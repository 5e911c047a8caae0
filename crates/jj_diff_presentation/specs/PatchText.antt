-- Unified diffs as bytes.
-- Cited by contracts of public items: diff_text.
use Rattle.std.specs.Prelude.{ℕ, ◌+◌, ◌-◌, ◌==◌, if◌then◌else◌, List, [], ◌∷◌, ◌++◌, codes}
use Rattle.std.specs.Fmt.{decimal}
use Rattle.std.specs.declared.ops.Range.{Range}
use Rattle.jj_diff_presentation.specs.Lines.{is_terminated}
use Rattle.jj_diff_presentation.specs.Names.{name_line}
use Rattle.jj_diff_presentation.specs.declared.unified.script.DiffLine.{DiffLine}
use Rattle.jj_diff_presentation.specs.declared.unified.script.DiffLineType.{DiffLineType}
use Rattle.jj_diff_presentation.specs.declared.unified.script.DiffLineType.TheVariants.{Context, Removed, Added}
use Rattle.jj_diff_presentation.specs.declared.unified.hunks.UnifiedDiffHunk.{UnifiedDiffHunk}

-- a space, `-` or `+`
abbrev pub type_byte : DiffLineType → ℕ
type_byte Context = 32
type_byte Removed = 45
type_byte Added = 43

-- the line after a line that does not end in LF
abbrev pub note : List ℕ
note = 92 ∷ codes " No newline at end of file\n"

-- a line of a hunk: a byte for its type, its content, and a note if it has no LF
abbrev pub line_text : DiffLineType → List ℕ → List ℕ
line_text line_type content =
    type_byte line_type ∷ (if is_terminated content then content else content ++ 10 ∷ note)

-- the lines of a hunk, one after the other
abbrev pub lines_text : List DiffLine → List ℕ
lines_text [] = []
lines_text (l ∷ ls) = line_text l.line_type l.content.now ++ lines_text ls

-- the number of the first line, or of the line before an empty range, and the length if it is not 1
abbrev pub range_text : ℕ → ℕ → List ℕ
range_text start len = decimal (if len == 0 then start else start + 1)
    ++ (if len == 1 then [] else 44 ∷ decimal len)

-- the first line of a hunk: the ranges of lines of both versions
abbrev pub header_text : Range ℕ → Range ℕ → List ℕ
header_text left right = codes "@@ -" ++ range_text left.start (left.end - left.start)
    ++ codes " +" ++ range_text right.start (right.end - right.start) ++ codes " @@\n"

-- the lines of all hunks, each after its header
abbrev pub hunks_text : List UnifiedDiffHunk → List ℕ
hunks_text [] = []
hunks_text (h ∷ hs) =
    header_text h.left_line_range h.right_line_range ++ lines_text h.lines.items ++ hunks_text hs

-- the two lines that name the file
abbrev pub names_text : List ℕ → List ℕ
names_text path =
    name_line (codes "--- ") (codes "a/") path ++ name_line (codes "+++ ") (codes "b/") path

-- nothing if there is no hunk
abbrev pub diff_text : List ℕ → List UnifiedDiffHunk → List ℕ
diff_text path [] = []
diff_text path (h ∷ hs) = names_text path ++ hunks_text (h ∷ hs)
