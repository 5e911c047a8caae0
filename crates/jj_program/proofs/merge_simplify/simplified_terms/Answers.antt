use Rattle.std.proofs.Common.{◌≡◌, ◌∙◌, ◌+◌, ◌*◌, ◌/◌, ap, arith, length, map, sym}
use Rattle.std.specs.List.{range_with_len}
use Rattle.std.proofs.lemmas.List.FromFn.{length-map-range_with_len}
use Rattle.jj_program.proofs.merge_simplify.simplified_terms.Goals as goal

pub cancel_terms-requires-clause-positions : goal.cancel_terms-requires-clause-positions
cancel_terms-requires-clause-positions c =
    let count = length c.args.terms.now / 2 + 1 in
    let size : length c.deref_mut-2.result.now ≡ count = ap length (c.deref_mut-2.ensures.value ∙ c.in_ok-adds.ensures) ∙ length-map-range_with_len (λ p. 2 * p) 0 count in
    omega (arith, size, ap length c.deref-2.ensures.value, c.in_ok-classes.ensures.0, c.requires)

pub cancel_terms-requires-clause-adds : goal.cancel_terms-requires-clause-adds
cancel_terms-requires-clause-adds c =
    let count = length c.args.terms.now / 2 + 1 in
    let is = c.deref_mut-2.ensures.value ∙ c.in_ok-adds.ensures in
    let size : length c.deref_mut-2.result.now ≡ count = ap length is ∙ length-map-range_with_len (λ p. 2 * p) 0 count in
    is ∙ ap (λ n. map (λ p. 2 * p) (range_with_len 0 n)) (sym size)

pub terms_left-requires-clause-positions : goal.terms_left-requires-clause-positions
terms_left-requires-clause-positions c =
    let count = length c.args.terms.now / 2 + 1 in
    let size : length c.in_ok-adds.adds.items ≡ count = ap length c.in_ok-adds.ensures ∙ length-map-range_with_len (λ p. 2 * p) 0 count in
    omega (arith, size, c.deref-6.ensures.len, c.in_ok-adds.adds.ok.0, c.deref-4.ensures.len, ap length c.deref-4.ensures.value, c.in_ok-classes.ensures.0, c.requires)
