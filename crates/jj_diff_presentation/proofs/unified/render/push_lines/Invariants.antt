use Rattle.std.proofs.Common.{◌≡◌, ◌++◌, drop}
use Rattle.jj_diff_presentation.specs.PatchText.{lines_text}
use Rattle.jj_diff_presentation.proofs.unified.render.push_lines.Given as goal

abbrev pub invariant-loop-line : goal.invariant-loop-line
invariant-loop-line l = l.text.items ++ lines_text (drop l.line-index l.lines)
    ≡ l.fn.text.items ++ lines_text l.lines
