use Rattle.std.proofs.Common.{ℕ, ◌<◌, ◌≤◌, [], length, get_or}
use Rattle.jj_diff.specs.Inputs.{bytes_of}
use Rattle.jj_diff.specs.Ends.{IsWithin}
use Rattle.jj_diff.proofs.diff.common.shortest_len.Given as goal

abbrev pub invariant-loop-index : goal.invariant-loop-index
invariant-loop-index l = record {
  within : (i : ℕ) → i < l.index → l.len ≤ length (get_or (bytes_of l.inputs) i []);
  greatest : (n : ℕ) → IsWithin (bytes_of l.inputs) n → n ≤ l.len;
}
