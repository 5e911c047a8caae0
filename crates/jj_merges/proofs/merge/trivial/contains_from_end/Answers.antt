use Rattle.std.proofs.Common.{arith, sym, ◌∙◌}
use Rattle.jj_merges.proofs.ResolutionScan.{none_of_last-more, none_of_last-all, any_at}
use Rattle.jj_merges.proofs.merge.trivial.contains_from_end.Goals as goal

pub returns-then-eq : goal.returns-then-eq
returns-then-eq g c =
    sym (any_at (g.T.PartialEq.eq c.args.value.now) c.args.values.now _ c.index-values-index.result (omega arith) c.index-values-index.is (sym c.eq.ensures ∙ c.if-eq.true))

pub loop-distance-preserved : goal.loop-distance-preserved
loop-distance-preserved g c =
    none_of_last-more (g.T.PartialEq.eq c.args.value.now) c.args.values.now c.loop-distance.distance _ c.index-values-index.result (omega arith) (omega arith) c.index-values-index.is
    (sym c.eq.ensures ∙ c.if-eq.false) c.loop-distance.invariant

pub returns : goal.returns
returns g c = sym (none_of_last-all (g.T.PartialEq.eq c.args.value.now) c.args.values.now c.loop-distance.distance (omega arith) c.loop-distance.invariant)
