use Rattle.std.proofs.Common.{below_more, arith, ◌∙◌, sym}
use Rattle.jj_merges.specs.Simplify.{equal_at}
use Rattle.jj_merges.proofs.FirstMatch.{position-found, position-none, equal_at-read}
use Rattle.jj_merges.proofs.merge.cancellation.find_matching_remove.Goals as goal

pub returns-then-eq : goal.returns-then-eq
returns-then-eq g c = position-found (equal_at g.T.PartialEq.eq c.args.values.now c.args.add) c.args.removes.now c.loop-position.position (omega arith) c.loop-position.invariant
    (equal_at-read g.T.PartialEq.eq c.args.values.now c.args.add _ _ _ c.requires.add_in_range c.index-values-add.is (c.requires.removes_in_range c.loop-position.position 0 (omega arith)) c.index-values-remove.is ∙ (sym c.eq.ensures ∙ c.if-eq.true))

pub loop-position-preserved : goal.loop-position-preserved
loop-position-preserved g c = below_more _ _ c.loop-position.invariant
    (equal_at-read g.T.PartialEq.eq c.args.values.now c.args.add _ _ _ c.requires.add_in_range c.index-values-add.is (c.requires.removes_in_range c.loop-position.position 0 (omega arith)) c.index-values-remove.is ∙ (sym c.eq.ensures ∙ c.if-eq.false))

pub returns : goal.returns
returns g c = position-none (equal_at g.T.PartialEq.eq c.args.values.now c.args.add) c.args.removes.now (λ k h. c.loop-position.invariant k (omega arith))
