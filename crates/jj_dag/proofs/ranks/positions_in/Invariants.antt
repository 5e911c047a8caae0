-- The positions so far.
use Rattle.std.proofs.Common.{◌≡◌, ◌+◌, ◌<◌, ℕ, get_or, length}
use Rattle.jj_dag.proofs.ranks.positions_in.Given as goal

abbrev pub invariant-loop-index : goal.invariant-loop-index
invariant-loop-index l = record {
  count : length l.positions.items ≡ l.count;
  positions : (k : ℕ) → k < l.index → get_or l.list k 0 < l.count → get_or l.positions.items (get_or l.list k 0) 0 ≡ k + 1;
}
