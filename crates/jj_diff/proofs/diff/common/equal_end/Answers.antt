use Rattle.jj_diff.proofs.CommonEnds.{end_next, end_next_longest}
use Rattle.jj_diff.proofs.diff.common.equal_end.Goals as goal

pub loop-index-preserved : goal.loop-index-preserved
loop-index-preserved c = record {
  equal = end_next c.args.inputs.now c.args.start c.loop-index.index c.loop-index.len c.shared_end-len.result
      c.loop-index-test.true c.loop-index.invariant.equal c.shared_end-len.ensures.most c.shared_end-len.ensures.equal;
  longest = λ n same. end_next_longest c.args.inputs.now c.args.start c.loop-index.index c.loop-index.len c.shared_end-len.result n
      c.loop-index-test.true c.shared_end-len.ensures.longest same (c.loop-index.invariant.longest n same);
}
