use Rattle.std.proofs.Common.{◌-◌, ◌^◌, ◌<◌, ◌≤◌, length}
use Rattle.jj_program.specs.PairedTerms.{AreLeftOf}
use Rattle.jj_program.proofs.merge_pairs.cancel_left.Given as goal

abbrev pub invariant-loop-index : goal.invariant-loop-index
invariant-loop-index l = record {
  left : AreLeftOf l.terms l.left.items;
  some : 0 < length l.hints.items;
  few : length l.hints.items ≤ 2 ^ 32;
  within : l.index ≤ length l.terms;
}

abbrev pub decreases-loop-index : goal.decreases-loop-index
decreases-loop-index l = length l.terms - l.index
