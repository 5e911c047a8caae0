use Rattle.jj_diff.proofs.CommonEnds.{start_next, start_next_longest}
use Rattle.jj_diff.proofs.diff.common.equal_start.Goals as goal

pub loop-index-preserved : goal.loop-index-preserved
loop-index-preserved c = record {
  equal = start_next c.args.inputs.now c.loop-index.index c.loop-index.len c.shared_start-len.result c.loop-index.invariant.equal
      c.shared_start-len.ensures.most c.shared_start-len.ensures.within c.shared_start-len.ensures.equal;
  longest = λ n same. start_next_longest c.args.inputs.now c.loop-index.index c.loop-index.len c.shared_start-len.result n
      c.loop-index-test.true c.shared_start-len.ensures.longest same (c.loop-index.invariant.longest n same);
}
