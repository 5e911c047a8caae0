use Rattle.std.proofs.Common.{◌≡◌, ◌+◌, ◌≤◌, length, drop}
use Rattle.jj_diff_presentation.specs.Scripts.{left_lines}
use Rattle.jj_diff_presentation.proofs.unified.hunks.count_left_lines.Given as goal

abbrev pub invariant-loop-line : goal.invariant-loop-line
invariant-loop-line l = record {
  counted : l.count + length (left_lines (drop l.line-index l.lines)) ≡ length (left_lines l.lines);
  bounded : l.count ≤ l.line-index;
}
