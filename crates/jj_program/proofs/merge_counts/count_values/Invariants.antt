use Rattle.std.proofs.Common.{◌≡◌, ◌-◌, ◌≤◌, length, take}
use Rattle.jj_program.specs.ValueCounts.{AreCountsOf}
use Rattle.jj_program.proofs.merge_counts.count_values.Given as goal

abbrev pub invariant-loop-index : goal.invariant-loop-index
invariant-loop-index l = record {
  counts : AreCountsOf (take l.index l.terms) l.counts.items;
  hints : length l.hints ≡ 256;
  within : l.index ≤ length l.terms;
}

abbrev pub decreases-loop-index : goal.decreases-loop-index
decreases-loop-index l = length l.terms - l.index
