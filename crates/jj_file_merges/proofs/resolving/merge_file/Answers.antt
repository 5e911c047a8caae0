use Rattle.std.proofs.Common.{subst}
use Rattle.std.specs.Str.{bytes_eq}
use Rattle.std.proofs.lemmas.Result.{IfOk-weaker}
use Rattle.jj_file_merges.specs.Resolutions.{IsDecision}
use Rattle.jj_file_merges.proofs.Growth.{merged_by_contents}
use Rattle.jj_file_merges.proofs.resolving.merge_file.Goals as goal

pub returns-in-None-clause-file : goal.returns-in-None-clause-file
returns-in-None-clause-file g c =
    IfOk-weaker c.merge_contents.result _ _
    (merged_by_contents (g.B.Backend.objects c.args.backend.now) (g.B.Backend.objects c.merge_contents.new.backend) c.args.options.now.hunk_level c.args.options.now.same_change c.args.ids.now
    (subst (IsDecision bytes_eq c.args.options.now.same_change c.args.ids.now) c.in-None.is c.in_ok-id.ensures))
    c.merge_contents.ensures.content
