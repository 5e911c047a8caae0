use Rattle.std.proofs.Common.{◌≡◌, take}
use Rattle.jj_diff.specs.Hunks.{hunk_ranges}
use Rattle.jj_diff.proofs.HunkRanges.{side_len}
use Rattle.jj_diff.proofs.diff.content_diff.ranges_within.Given as goal

abbrev pub invariant-loop-hunk : goal.invariant-loop-hunk
invariant-loop-hunk l = record {
  ranges : l.ranges.items ≡ hunk_ranges l.input 0 (take l.hunk-index l.hunks);
  start : l.start ≡ side_len l.input (take l.hunk-index l.hunks);
}
