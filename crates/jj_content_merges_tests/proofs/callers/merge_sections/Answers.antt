use Rattle.std.proofs.Common.{[], ◌∷◌, map}
use Rattle.jj_content_merges.specs.Files.{terms_of}
use Rattle.jj_content_merges_tests.proofs.Starts.{keeps_start}
use Rattle.jj_content_merges_tests.proofs.callers.merge_sections.Goals as goal

pub returns : goal.returns
returns c = λ n common.
    keeps_start c.args.options.now.hunk_level c.args.options.now.same_change c.args.left.now c.args.base.now c.args.right.now
    (map terms_of c.in_ok-merged.merged.items) n c.in_ok-merged.ensures.merge common
