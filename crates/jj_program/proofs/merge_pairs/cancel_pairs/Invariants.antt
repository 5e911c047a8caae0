use Rattle.std.proofs.Common.{◌≡◌, ◌-◌, ◌≤◌, length, take}
use Rattle.jj_program.specs.PairedTerms.{left_adds, left_removes}
use Rattle.jj_program.proofs.merge_pairs.cancel_pairs.Given as goal

abbrev pub invariant-loop-index : goal.invariant-loop-index
invariant-loop-index l = record {
  adds : l.adds.items ≡ left_adds (take l.index l.left.items) (take l.index l.terms);
  removes : l.removes.items ≡ left_removes (take l.index l.left.items) (take l.index l.terms);
  within : l.index ≤ length l.terms;
}

abbrev pub decreases-loop-index : goal.decreases-loop-index
decreases-loop-index l = length l.terms - l.index
