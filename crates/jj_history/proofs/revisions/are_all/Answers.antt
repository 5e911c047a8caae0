use Rattle.std.proofs.Common.{◌≡◌, ◌∙◌, sym}
use Rattle.std.proofs.lemmas.List.Elements.{All-more}
use Rattle.jj_history.proofs.revisions.are_all.Goals as goal

pub loop-other-preserved : goal.loop-other-preserved
loop-other-preserved c = All-more (λ other. other ≡ c.args.id.now) c.args.found.now c.loop-other.other-index c.other-item.result c.loop-other-test.true c.loop-other.invariant (sym c.other-item.is ∙ c.are_equal.ensures.0 c.if-not-are_equal.false)
