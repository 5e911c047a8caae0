use Rattle.std.proofs.Common.{◌≡◌, ◌++◌, length}
use Rattle.jj_diff_presentation.specs.Lines.{split_lines}
use Rattle.jj_diff_presentation.specs.Scripts.{left_lines, right_lines, on_left, on_right, AreContext, lines_of_type, typed_lines}
use Rattle.jj_diff_presentation.specs.declared.unified.script.DiffLineType.TheVariants.{Context}
use Rattle.jj_diff_presentation.proofs.unified.script.push_lines.Given as goal

abbrev pub invariant-loop-rest : goal.invariant-loop-rest
invariant-loop-rest l = record {
  left : left_lines l.lines.items ++ on_left l.line_type (split_lines l.rest)
      ≡ left_lines l.fn.lines.items ++ on_left l.line_type (split_lines l.text);
  right : right_lines l.lines.items ++ on_right l.line_type (split_lines l.rest)
      ≡ right_lines l.fn.lines.items ++ on_right l.line_type (split_lines l.text);
  typed : typed_lines l.lines.items ++ lines_of_type l.line_type (split_lines l.rest)
      ≡ typed_lines l.fn.lines.items ++ lines_of_type l.line_type (split_lines l.text);
  context : l.line_type ≡ Context → AreContext l.fn.lines.items → AreContext l.lines.items;
}

abbrev pub decreases-loop-rest : goal.decreases-loop-rest
decreases-loop-rest l = length l.rest
