use Rattle.std.proofs.Common.{ℕ, ◌<◌, ◌≤◌, [], length, get_or}
use Rattle.jj_diff.specs.Inputs.{bytes_of}
use Rattle.jj_diff.specs.Tokens.{IsCut}
use Rattle.jj_content_merges.proofs.files.splitting.are_next.Given as goal

abbrev pub invariant-loop-index : goal.invariant-loop-index
invariant-loop-index g l = record {
  ordered : (i : ℕ) → i < l.index → get_or l.starts i 0 ≤ get_or l.ends i 0;
  within : (i : ℕ) → i < l.index → get_or l.ends i 0 ≤ length (get_or (bytes_of l.inputs) i []);
  cuts : (i : ℕ) → i < l.index → IsCut (g.T.Tokenizer.is_end l.tokenizer) (get_or (bytes_of l.inputs) i []) (get_or l.ends i 0);
}
