use Rattle.std.proofs.Common.{◌≡◌, ℕ, ◌<◌, [], length, get_or}
use Rattle.std.specs.List.{slice_range}
use Rattle.jj_diff.specs.Inputs.{bytes_of}
use Rattle.jj_content_merges.proofs.files.splitting.row_between.Given as goal

abbrev pub invariant-loop-index : goal.invariant-loop-index
invariant-loop-index l = record {
  len : length l.row.items ≡ l.index;
  parts : (i : ℕ) → i < l.index → get_or (bytes_of l.row.items) i []
      ≡ slice_range (get_or (bytes_of l.inputs) i []) (get_or l.starts i 0) (get_or l.ends i 0);
}
