use Rattle.std.proofs.Common.{sym, subst, below_more}
use Rattle.std.specs.List.{Contains}
use Rattle.std.proofs.lemmas.List.Elements.{Contains-append_left, Contains-push}
use Rattle.jj_dag.proofs.ranks.numbers_below.Goals as goal

pub loop-number-preserved : goal.loop-number-preserved
loop-number-preserved c =
    below_more _ _ (λ k less. subst (λ l. Contains l k) (sym c.in_ok-push.ensures.items) (Contains-append_left _ _ k (c.loop-number.invariant k less)))
    (subst (λ l. Contains l c.loop-number.number) (sym c.in_ok-push.ensures.items) (Contains-push _ _))
