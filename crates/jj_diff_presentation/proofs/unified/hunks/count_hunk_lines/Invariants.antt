use Rattle.std.proofs.Common.{◌≡◌, ◌+◌, ◌≤◌, take}
use Rattle.jj_diff_presentation.specs.Hunks.{trailing_context}
use Rattle.jj_diff_presentation.proofs.unified.hunks.count_hunk_lines.Given as goal

abbrev pub invariant-loop-index : goal.invariant-loop-index
invariant-loop-index l = record {
  run : l.run ≡ trailing_context (take l.index l.lines);
  after : l.first + 1 + l.run ≤ l.index;
  short : l.run ≤ l.context + l.context;
}
