use Rattle.std.proofs.Common.{◌≡◌, take, length}
use Rattle.jj_diff.specs.Inputs.{bytes_of}
use Rattle.jj_content_merges.specs.Hunks.{merge_contents}
use Rattle.jj_content_merges.proofs.files.joining.copy_terms.Given as goal

abbrev pub invariant-loop-text : goal.invariant-loop-text
invariant-loop-text l = record {
  terms : merge_contents l.terms.items ≡ bytes_of (take l.text-index l.row);
  count : length l.terms.items ≡ l.text-index;
}
