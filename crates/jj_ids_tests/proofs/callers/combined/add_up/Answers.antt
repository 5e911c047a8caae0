use Rattle.std.proofs.Common.{arith}
use Rattle.jj_ids_tests.proofs.Sums.{added, all_added}
use Rattle.jj_ids_tests.proofs.callers.combined.add_up.Goals as goal

pub loop-one-preserved : goal.loop-one-preserved
loop-one-preserved c =
    let laws = c.sum_laws.ensures in
    added laws.associative laws.commutative laws.neutral c.args.found.now c.loop-one.one-index c.one-item.result c.loop-one.all c.in_ok-all.all (omega arith) c.one-item.is
    c.loop-one.invariant c.in_ok-all.ensures

pub returns : goal.returns
returns c =
    let laws = c.sum_laws.ensures in
    all_added laws.associative laws.commutative laws.neutral c.args.found.now c.loop-one.one-index c.loop-one.all (omega arith) c.loop-one.invariant
