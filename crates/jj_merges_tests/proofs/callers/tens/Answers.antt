use Rattle.std.proofs.Common.{rules, ◌≡◌, ◌∙◌, ◌/◌, ◌<◌, true, refl, ap, sym, arith, nat_eq, Contains}
use Rattle.std.proofs.lemmas.Cmp.{nat_eq_equiv}
use Rattle.std.proofs.lemmas.Result.{IfOk-weaker}
use Rattle.jj_merges_tests.proofs.callers.tens.Goals as goal

pub returns : goal.returns
returns c =
    IfOk-weaker c.map.result _ _
    (λ m counts w. counts nat_eq nat_eq (λ v. v / 10) nat_eq_equiv (record { symm = nat_eq_equiv.symm; trans = λ x y z p q. nat_eq_equiv.congr x y z p ∙ q })
    (λ f g x y among called. let a = called.called in let b = called.shows in search (rules, a, b)) (λ x y e. grind (arith, e)) w)
    c.map.ensures.counts
