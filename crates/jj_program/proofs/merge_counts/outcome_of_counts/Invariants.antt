use Rattle.std.proofs.Common.{◌-◌, ◌≤◌, length}
use Rattle.jj_program.proofs.CountDecisions.{IsDecidedTo}
use Rattle.jj_program.proofs.merge_counts.outcome_of_counts.Given as goal

abbrev pub invariant-loop-index : goal.invariant-loop-index
invariant-loop-index l = record {
  decided : IsDecidedTo l.counts l.same_change l.index l.added l.removed;
  within : l.index ≤ length l.counts;
}

abbrev pub decreases-loop-index : goal.decreases-loop-index
decreases-loop-index l = length l.counts - l.index
