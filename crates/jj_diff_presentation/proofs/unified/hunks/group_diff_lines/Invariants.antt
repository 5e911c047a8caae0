use Rattle.std.proofs.Common.{◌≡◌, ◌+◌, ◌≤◌, [], length}
use Rattle.jj_diff_presentation.specs.Scripts.{left_lines, right_lines, AreContext}
use Rattle.jj_diff_presentation.proofs.Grouping.{IsGrouped}
use Rattle.jj_diff_presentation.proofs.unified.hunks.group_diff_lines.Given as goal

abbrev pub invariant-hunks : goal.invariant-hunks
invariant-hunks l = record {
  grouped : IsGrouped (left_lines l.lines) (right_lines l.lines) l.context l.left l.right l.rest
      l.hunks.items;
  left : l.left + length l.rest ≤ length l.lines;
  right : l.right + length l.rest ≤ length l.lines;
  identity : AreContext l.lines → (l.hunks.items ≡ []) × (l.rest ≡ l.lines);
}

abbrev pub decreases-hunks : goal.decreases-hunks
decreases-hunks l = length l.rest
