use Rattle.std.proofs.Common.{take}
use Rattle.jj_content_merges.specs.Hunks.{merge_contents}
use Rattle.jj_file_merges.specs.Contents.{AreContents}
use Rattle.jj_file_merges.proofs.resolving.read_contents.Given as goal

abbrev pub invariant-loop-id : goal.invariant-loop-id
invariant-loop-id g l = AreContents (g.B.Backend.objects l.backend).files (take l.id-index l.ids) (merge_contents l.contents.items)
