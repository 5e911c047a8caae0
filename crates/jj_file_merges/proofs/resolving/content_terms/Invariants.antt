use Rattle.std.proofs.Common.{◌≡◌, take}
use Rattle.jj_diff.specs.Inputs.{bytes_of}
use Rattle.jj_content_merges.specs.Hunks.{merge_contents}
use Rattle.jj_file_merges.proofs.resolving.content_terms.Given as goal

abbrev pub invariant-loop-content : goal.invariant-loop-content
invariant-loop-content l = bytes_of l.terms.items ≡ merge_contents (take l.content-index l.contents)
