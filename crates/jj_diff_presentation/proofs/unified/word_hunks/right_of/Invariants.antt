use Rattle.std.proofs.Common.{◌≡◌, ◌++◌, drop}
use Rattle.std.specs.List.{concat}
use Rattle.jj_diff_presentation.specs.Scripts.{right_lines}
use Rattle.jj_diff_presentation.proofs.unified.word_hunks.right_of.Given as goal

abbrev pub invariant-loop-line : goal.invariant-loop-line
invariant-loop-line l =
    l.text.items ++ concat (right_lines (drop l.line-index l.lines)) ≡ concat (right_lines l.lines)
