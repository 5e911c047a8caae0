use Rattle.std.proofs.Common.{ℕ, ◌≤◌}
use Rattle.jj_diff.specs.Inputs.{bytes_of}
use Rattle.jj_diff.specs.Ends.{IsEqualStart, IsEqualStartOf}
use Rattle.jj_diff.proofs.diff.common.equal_start.Given as goal

abbrev pub invariant-loop-index : goal.invariant-loop-index
invariant-loop-index l = record {
  equal : IsEqualStartOf (bytes_of l.inputs) l.index l.len;
  longest : (n : ℕ) → IsEqualStart (bytes_of l.inputs) n → n ≤ l.len;
}
