use Rattle.std.proofs.Common.{subst}
use Rattle.jj_content_merges.specs.Comparisons.{AreTight}
use Rattle.jj_content_merges.specs.Rows.{rows_of}
use Rattle.jj_content_merges.proofs.files.comparing.split_by_comparisons.Goals as goal

pub returns-clause-tight : goal.returns-clause-tight
returns-clause-tight c = λ same.
    subst (λ left. AreTight same left c.args.base.now c.args.right.now (rows_of c.in_ok-rows.rows.items)) c.loop-rights.invariant.1
    (subst (λ base. AreTight same c.loop-rights.lefts.inputs.1.now base c.args.right.now (rows_of c.in_ok-rows.rows.items)) c.loop-rights.invariant.0
    (subst (λ right. AreTight same c.loop-rights.lefts.inputs.1.now c.loop-rights.lefts.inputs.0.now right (rows_of c.in_ok-rows.rows.items)) c.loop-rights.invariant.3
    (c.in_ok-rows.ensures.tight same)))
