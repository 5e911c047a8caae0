use Rattle.std.proofs.Common.{ℕ, ◌≤◌}
use Rattle.jj_diff.specs.Inputs.{bytes_of}
use Rattle.jj_diff.specs.Ends.{IsEqualEnd, IsEqualEndOf}
use Rattle.jj_diff.proofs.diff.common.equal_end.Given as goal

abbrev pub invariant-loop-index : goal.invariant-loop-index
invariant-loop-index l = record {
  equal : IsEqualEndOf (bytes_of l.inputs) l.start l.index l.len;
  longest : (n : ℕ) → IsEqualEnd (bytes_of l.inputs) l.start n → n ≤ l.len;
}
