use Rattle.std.proofs.Common.{◌≡◌, ◌++◌, drop}
use Rattle.jj_diff_presentation.specs.Scripts.{left_lines, right_lines, AreContext, lines_of_parts, script_of, typed_lines}
use Rattle.jj_diff.specs.Hunks.{AllMatch}
use Rattle.jj_diff_presentation.proofs.unified.script.lines_of_hunks.Given as goal

abbrev pub invariant-loop-hunk : goal.invariant-loop-hunk
invariant-loop-hunk l = record {
  left : left_lines l.lines.items ++ lines_of_parts 0 (drop l.hunk-index l.hunks)
      ≡ lines_of_parts 0 l.hunks;
  right : right_lines l.lines.items ++ lines_of_parts 1 (drop l.hunk-index l.hunks)
      ≡ lines_of_parts 1 l.hunks;
  typed : typed_lines l.lines.items ++ script_of (drop l.hunk-index l.hunks) ≡ script_of l.hunks;
  context : AllMatch l.hunks → AreContext l.lines.items;
}
