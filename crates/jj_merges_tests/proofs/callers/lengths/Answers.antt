use Rattle.std.proofs.Common.{rules, ◌≡◌, ◌∙◌, ◌<◌, true, refl, ap, sym, arith, nat_eq, string_eq, string_bytes, length, Contains}
use Rattle.std.specs.String.{string_eq_equiv}
use Rattle.std.proofs.lemmas.Cmp.{nat_eq_equiv}
use Rattle.std.proofs.lemmas.Result.{IfOk-weaker}
use Rattle.std.proofs.lemmas.Slice.Eq.{bytes_eq-Decides}
use Rattle.jj_merges_tests.proofs.callers.lengths.Goals as goal

pub returns : goal.returns
returns c =
    IfOk-weaker c.map.result _ _
    (λ m counts w. counts string_eq nat_eq (λ s. length (string_bytes s)) string_eq_equiv (record { symm = nat_eq_equiv.symm; trans = λ x y z p q. nat_eq_equiv.congr x y z p ∙ q })
    (λ f g x y among called. let a = called.called in let b = called.shows in search (rules, a, b)) (λ x y e. ap (λ bytes. nat_eq (length (string_bytes x)) (length bytes)) (sym ((bytes_eq-Decides (string_bytes x) (string_bytes y)).0 e)) ∙ nat_eq_equiv.refl (length (string_bytes x))) w)
    c.map.ensures.counts
