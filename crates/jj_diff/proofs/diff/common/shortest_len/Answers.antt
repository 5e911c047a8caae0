use Rattle.std.proofs.Common.{arith}
use Rattle.jj_diff.proofs.CommonEnds.{shortest_next, within_at}
use Rattle.jj_diff.proofs.diff.common.shortest_len.Goals as goal

pub loop-index-preserved : goal.loop-index-preserved
loop-index-preserved c = record {
  within = shortest_next c.args.inputs.now c.loop-index.index c.loop-index.len c.min-len.result c.loop-index.invariant.within
      (omega (arith, c.min-len.ensures)) (omega (arith, c.min-len.ensures));
  greatest = λ n within. omega (
    arith,
    c.min-len.ensures,
    c.loop-index.invariant.greatest n within,
    within_at c.args.inputs.now n c.loop-index.index c.loop-index-test.true within,
  );
}
