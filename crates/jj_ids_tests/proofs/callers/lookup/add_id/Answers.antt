use Rattle.std.proofs.Common.{◌∙◌, true≢false, refl, sym, subst}
use Rattle.std.proofs.lemmas.Slice.Eq.{bytes_eq-Decides}
use Rattle.jj_content.specs.Hex.{hex, reverse_hex}
use Rattle.jj_ids.specs.HexPrefixes.{to_reverse_hex}
use Rattle.jj_ids_tests.specs.Lookups.{IsLookupResult}
use Rattle.jj_ids_tests.proofs.Matches.{no_match, first_match, same_match, second_match, more_matches}
use Rattle.jj_ids_tests.proofs.callers.lookup.add_id.Goals as goal

pub returns-then-not-matches-clause-hex : goal.returns-then-not-matches-clause-hex
returns-then-not-matches-clause-hex g c = λ ids so_far.
    no_match hex ids c.args.prefix.now c.args.id.now c.args.found so_far
    (λ begins. true≢false (sym begins ∙ sym c.matches.ensures.hex ∙ c.if-not-matches.true))

pub returns-in-NoMatch-clause-hex : goal.returns-in-NoMatch-clause-hex
returns-in-NoMatch-clause-hex g c = λ ids so_far.
    first_match hex ids c.args.prefix.now c.args.id.now (sym c.matches.ensures.hex ∙ c.if-not-matches.false) c.args.id refl
    (subst (IsLookupResult hex ids c.args.prefix.now) c.in-NoMatch.is so_far)

pub returns-then-eq-clause-hex : goal.returns-then-eq-clause-hex
returns-then-eq-clause-hex g c = λ ids so_far.
    same_match hex ids c.args.prefix.now c.args.id.now (sym c.matches.ensures.hex ∙ c.if-not-matches.false) c.in-SingleMatch.other
    ((bytes_eq-Decides c.in-SingleMatch.other.now c.args.id.now).0 (sym c.eq.ensures ∙ c.if-eq.true))
    (subst (IsLookupResult hex ids c.args.prefix.now) c.in-SingleMatch.is so_far)

pub returns-else-eq-clause-hex : goal.returns-else-eq-clause-hex
returns-else-eq-clause-hex g c = λ ids so_far.
    second_match hex ids c.args.prefix.now c.args.id.now (sym c.matches.ensures.hex ∙ c.if-not-matches.false) c.in-SingleMatch.other
    (λ same. true≢false (sym ((bytes_eq-Decides c.in-SingleMatch.other.now c.args.id.now).1 same) ∙ sym c.eq.ensures ∙ c.if-eq.false))
    (subst (IsLookupResult hex ids c.args.prefix.now) c.in-SingleMatch.is so_far)

pub returns-in-AmbiguousMatch-clause-hex : goal.returns-in-AmbiguousMatch-clause-hex
returns-in-AmbiguousMatch-clause-hex g c = λ ids so_far.
    more_matches hex ids c.args.prefix.now c.args.id.now (sym c.matches.ensures.hex ∙ c.if-not-matches.false)
    (subst (IsLookupResult hex ids c.args.prefix.now) c.in-AmbiguousMatch.is so_far)

pub returns-then-not-matches-clause-reverse_hex : goal.returns-then-not-matches-clause-reverse_hex
returns-then-not-matches-clause-reverse_hex g c = λ ids so_far.
    no_match reverse_hex ids (to_reverse_hex c.args.prefix.now) c.args.id.now c.args.found so_far
    (λ begins. true≢false (sym begins ∙ sym c.matches.ensures.reverse_hex ∙ c.if-not-matches.true))

pub returns-in-NoMatch-clause-reverse_hex : goal.returns-in-NoMatch-clause-reverse_hex
returns-in-NoMatch-clause-reverse_hex g c = λ ids so_far.
    first_match reverse_hex ids (to_reverse_hex c.args.prefix.now) c.args.id.now (sym c.matches.ensures.reverse_hex ∙ c.if-not-matches.false) c.args.id refl
    (subst (IsLookupResult reverse_hex ids (to_reverse_hex c.args.prefix.now)) c.in-NoMatch.is so_far)

pub returns-then-eq-clause-reverse_hex : goal.returns-then-eq-clause-reverse_hex
returns-then-eq-clause-reverse_hex g c = λ ids so_far.
    same_match reverse_hex ids (to_reverse_hex c.args.prefix.now) c.args.id.now (sym c.matches.ensures.reverse_hex ∙ c.if-not-matches.false) c.in-SingleMatch.other
    ((bytes_eq-Decides c.in-SingleMatch.other.now c.args.id.now).0 (sym c.eq.ensures ∙ c.if-eq.true))
    (subst (IsLookupResult reverse_hex ids (to_reverse_hex c.args.prefix.now)) c.in-SingleMatch.is so_far)

pub returns-else-eq-clause-reverse_hex : goal.returns-else-eq-clause-reverse_hex
returns-else-eq-clause-reverse_hex g c = λ ids so_far.
    second_match reverse_hex ids (to_reverse_hex c.args.prefix.now) c.args.id.now (sym c.matches.ensures.reverse_hex ∙ c.if-not-matches.false) c.in-SingleMatch.other
    (λ same. true≢false (sym ((bytes_eq-Decides c.in-SingleMatch.other.now c.args.id.now).1 same) ∙ sym c.eq.ensures ∙ c.if-eq.false))
    (subst (IsLookupResult reverse_hex ids (to_reverse_hex c.args.prefix.now)) c.in-SingleMatch.is so_far)

pub returns-in-AmbiguousMatch-clause-reverse_hex : goal.returns-in-AmbiguousMatch-clause-reverse_hex
returns-in-AmbiguousMatch-clause-reverse_hex g c = λ ids so_far.
    more_matches reverse_hex ids (to_reverse_hex c.args.prefix.now) c.args.id.now (sym c.matches.ensures.reverse_hex ∙ c.if-not-matches.false)
    (subst (IsLookupResult reverse_hex ids (to_reverse_hex c.args.prefix.now)) c.in-AmbiguousMatch.is so_far)
