use Rattle.std.proofs.Common.{◌≡◌, ℕ, ◌<◌, length}
use Rattle.jj_diff.specs.Inputs.{bytes_of}
use Rattle.jj_diff.specs.Anchors.{IsTokenRange, lists_of}
use Rattle.jj_diff.proofs.diff.anchors.token_ranges.Given as goal

abbrev pub invariant-loop-index : goal.invariant-loop-index
invariant-loop-index g l = record {
  starts_len : length l.starts.items ≡ l.index;
  ends_len : length l.ends.items ≡ l.index;
  tokens : (i : ℕ) → i < l.index → IsTokenRange g.C.CompareBytes.canonical (bytes_of l.row) (lists_of l.offsets) (g.C.CompareBytes.canonical l.token) l.starts.items l.ends.items i;
}
