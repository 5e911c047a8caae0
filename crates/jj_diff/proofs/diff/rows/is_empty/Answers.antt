use Rattle.std.proofs.Common.{below_more}
use Rattle.jj_diff.proofs.Rows.{row_empty}
use Rattle.jj_diff.proofs.diff.rows.is_empty.Goals as goal

pub loop-index-preserved : goal.loop-index-preserved
loop-index-preserved c = below_more _ _ c.loop-index.invariant
    (row_empty c.args.row.now c.loop-index.index c.is_empty.result c.is_empty.ensures c.if-not-is_empty.false)
