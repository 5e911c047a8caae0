use Rattle.std.proofs.Common.{subst}
use Rattle.jj_merges.specs.declared.merge.SameChange.TheVariants.{Keep}
use Rattle.jj_content_merges.specs.Files.{IsMergeResult}
use Rattle.jj_content_merges_tests.proofs.Merges.{adds_up}
use Rattle.jj_content_merges_tests.proofs.callers.merge_counted.Goals as goal

pub returns : goal.returns
returns c = λ f additive.
    adds_up f c.args.hunk_level c.args.left.now c.args.base.now c.args.right.now
    (c.measure_laws.ensures f additive c.args.hunk_level c.args.left.now c.args.base.now c.args.right.now)
    c.in_ok-merged.merged
    (subst (λ terms. IsMergeResult c.args.hunk_level Keep terms c.in_ok-merged.merged) c.in_ok-inputs.ensures c.in_ok-merged.ensures.merge)
