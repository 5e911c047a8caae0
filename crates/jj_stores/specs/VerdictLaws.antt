-- Equality of verifications, field by field.
-- Cited by contracts of public items: verdict_eq, verdict_equiv.
use Rattle.std.specs.Prelude.{Bool}
use Rattle.std.specs.Cmp.{IsEquivalence, and_equiv, on_equiv}
use Rattle.std.specs.Cmp.Lexicographic.{nat_list_eq_equiv, options_equiv}
use Rattle.std.specs.Option.{option_eq}
use Rattle.std.specs.Ordering.{eq_of_both, on}
use Rattle.std.specs.Str.{bytes_eq}
use Rattle.jj_stores.specs.Verdict.{Verdict}
use Rattle.jj_stores.specs.contracts.signing.SigStatusPartialEq.TheImpl.{ghosts}
use Rattle.jj_stores.specs.contracts.signing.SigStatusEq.TheImpl.Laws.{laws-law}

-- equal status, key and display name
abbrev pub verdict_eq : Verdict → Verdict → Bool
verdict_eq =
    eq_of_both (on (λ v. v.status) ghosts.eq)
    (eq_of_both (on (λ v. v.key) (option_eq bytes_eq))
    (on (λ v. v.display) (option_eq bytes_eq)))

pub verdict_equiv : IsEquivalence verdict_eq
verdict_equiv =
    and_equiv (on_equiv (λ v. v.status) laws-law)
    (and_equiv (on_equiv (λ v. v.key) (options_equiv nat_list_eq_equiv))
    (on_equiv (λ v. v.display) (options_equiv nat_list_eq_equiv)))
