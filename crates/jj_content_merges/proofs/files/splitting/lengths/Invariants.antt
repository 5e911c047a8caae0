use Rattle.std.proofs.Common.{◌≡◌, ℕ, ◌<◌, ◌-◌, [], length, get_or}
use Rattle.jj_diff.specs.Inputs.{bytes_of}
use Rattle.jj_content_merges.proofs.files.splitting.lengths.Given as goal

abbrev pub invariant-loop-index : goal.invariant-loop-index
invariant-loop-index l = record {
  len : length l.result.items ≡ l.index;
  limits : (i : ℕ) → i < l.index → get_or l.result.items i 0 ≡ length (get_or (bytes_of l.inputs) i []) - 0;
}
