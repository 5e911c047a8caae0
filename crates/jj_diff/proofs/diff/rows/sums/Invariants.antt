use Rattle.std.proofs.Common.{◌≡◌, ℕ, ◌<◌, ◌+◌, length, get_or}
use Rattle.jj_diff.proofs.diff.rows.sums.Given as goal

abbrev pub invariant-loop-index : goal.invariant-loop-index
invariant-loop-index l = record {
  len : length l.result.items ≡ l.index;
  sums_of : (i : ℕ) → i < l.index → get_or l.result.items i 0 ≡ get_or l.starts i 0 + get_or l.offsets i 0;
}
