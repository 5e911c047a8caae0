use Rattle.std.proofs.Common.{◌≡◌, true, false}
use Rattle.jj_filter.proofs.ReportedLines.{has_part}
use Rattle.jj_filter.proofs.report.are_empty.Goals as goal

pub returns-then-not-is_empty : goal.returns-then-not-is_empty
returns-then-not-is_empty c = (
  λ (h : false ≡ true). cc h,
  λ empty. absurd (has_part c.args.parts.now c.loop-index.index _ c.is_empty.result c.loop-index-test.true c.loop-index.invariant c.if-not-is_empty.true c.is_empty.ensures empty),
)
