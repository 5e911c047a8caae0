use Rattle.std.proofs.Common.{rules, arith}
use Rattle.jj_dag.proofs.RankedNodes.{position_more, position_none}
use Rattle.jj_dag.proofs.ranks.positions_in.Goals.{then-number-count, else-number-count}
use Rattle.jj_dag.proofs.ranks.positions_in.Goals as goal

pub loop-index-preserved : goal.loop-index-preserved
loop-index-preserved c =
    let before = c.loop-index.invariant in
    elim c.if-number-count.branch [
      | then-number-count w ↦ record {
        count = search rules;
        positions = position_more c.args.list.now c.loop-index.positions.items c.if-number-count.positions.items c.loop-index.index c.args.count c.requires (omega arith) before.count (search rules) (search rules) before.positions;
      }
      | else-number-count w ↦ record {
        count = search rules;
        positions = position_none c.args.list.now c.loop-index.positions.items c.if-number-count.positions.items c.loop-index.index c.args.count (search rules) (search rules) before.positions;
      }
    ]
