use Rattle.std.proofs.Common.{◌-◌, length, get_or}
use Rattle.jj_diff.proofs.Rows.{none}
use Rattle.jj_diff.proofs.CommonEnds.{within_at}
use Rattle.jj_diff.proofs.HunkEnds.{limits_more, len_more, limits_all}
use Rattle.jj_diff.proofs.diff.rows.limits.Goals as goal

pub loop-index-preserved : goal.loop-index-preserved
loop-index-preserved c = record {
  len = len_more c.loop-index.result.items c.push.new.self.items (length (get_or c.args.inputs.now c.loop-index.index none).now - c.args.len)
      c.loop-index.index c.in_ok-push.ensures.items c.loop-index.invariant.len;
  limits = limits_more c.args.inputs.now c.args.len c.loop-index.index c.loop-index.result.items c.push.new.self.items
      c.in_ok-push.ensures.items c.loop-index.invariant.len c.loop-index.invariant.limits;
}

pub returns : goal.returns
returns c =
    limits_all c.args.inputs.now c.args.len c.loop-index.index c.loop-index.result.items c.loop-index-test.false
    c.loop-index.auto.index-end c.loop-index.invariant.len c.loop-index.invariant.limits

pub overflow_sub-inputs : goal.overflow_sub-inputs
overflow_sub-inputs c = within_at c.args.inputs.now c.args.len c.loop-index.index c.loop-index-test.true c.requires
