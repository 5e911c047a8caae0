use Rattle.std.proofs.Common.{◌≡◌, take}
use Rattle.jj_diff.specs.Ranges.{ranges_between, last_end}
use Rattle.jj_diff.proofs.diff.ranges.ranges_of_ends.Given as goal

abbrev pub invariant-loop-end : goal.invariant-loop-end
invariant-loop-end l = record {
  ranges : l.ranges.items ≡ ranges_between 0 (take l.end-index l.ends);
  start : l.start ≡ last_end 0 (take l.end-index l.ends);
}
