use Rattle.std.proofs.Common.{◌≡◌, ℕ, ◌<◌, [], length, get_or}
use Rattle.jj_diff.specs.Inputs.{bytes_of}
use Rattle.jj_diff.specs.Anchors.{token_offsets, lists_of}
use Rattle.jj_diff.proofs.diff.anchors.find_row_offsets.Given as goal

abbrev pub invariant-loop-index : goal.invariant-loop-index
invariant-loop-index g l = record {
  len : length l.result.items ≡ l.index;
  each : (i : ℕ) → i < l.index → get_or (lists_of l.result.items) i [] ≡ token_offsets (g.T.Tokenizer.is_end l.tokenizer) (get_or (bytes_of l.row) i []);
}
