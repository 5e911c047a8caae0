use Rattle.std.proofs.Common.{◌≡◌, ℕ, ◌<◌, ◌-◌, [], length, get_or}
use Rattle.jj_diff.specs.Inputs.{bytes_of}
use Rattle.jj_diff.proofs.diff.refine.starts_before.Given as goal

abbrev pub invariant-loop-index : goal.invariant-loop-index
invariant-loop-index l = record {
  len : length l.starts.items ≡ l.index;
  starts : (i : ℕ) → i < l.index → get_or l.starts.items i 0 ≡ get_or l.ends i 0 - length (get_or (bytes_of l.row) i []);
}
