use Rattle.std.proofs.Common.{subst, sym, ◌∙◌, arith}
use Rattle.jj_diff_presentation.specs.Hunks.{IsHunkEnd}
use Rattle.jj_diff_presentation.proofs.Runs.{ends_in_run, ends_after_run}
use Rattle.jj_diff_presentation.proofs.unified.hunks.count_hunk_lines.Goals as goal

pub returns-then-run-context-2-clause-end : goal.returns-then-run-context-2-clause-end
returns-then-run-context-2-clause-end c =
    ends_in_run c.args.lines.now c.args.context c.loop-index.run c.loop-index.index _
    c.loop-index-test.true (sym c.is_context.ensures ∙ c.if-not-is_context.false)
    c.loop-index.invariant.run c.if-run-context.true c.if-run-context-2.true
    c.loop-index.invariant.short

pub returns-clause-end : goal.returns-clause-end
returns-clause-end c =
    subst (IsHunkEnd c.args.lines.now c.args.context) (omega arith)
    (ends_after_run c.args.lines.now c.args.context c.loop-index.run c.loop-index.index
    (omega arith) c.loop-index.invariant.run)
