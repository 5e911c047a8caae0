use Rattle.std.proofs.Common.{take}
use Rattle.std.specs.List.{AllZip}
use Rattle.jj_content_merges.specs.Hunks.{merge_contents}
use Rattle.jj_file_merges.specs.Markings.{IsTermContent}
use Rattle.jj_file_merges.proofs.marking.term_contents.Given as goal

abbrev pub invariant-loop-id : goal.invariant-loop-id
invariant-loop-id g l = AllZip (IsTermContent (g.B.Backend.objects l.backend).files) (take l.id-index l.ids) (merge_contents l.contents.items)
