use Rattle.std.proofs.Common.{◌≡◌, ◌∙◌, ◌++◌, ◌∷◌, [], refl, sym, ap, arith, rules, length, append_assoc, append-nil, length-append}
use Rattle.jj_merges.specs.Flatten.{flattened_terms, inverse_terms, nested_count}
use Rattle.jj_merges.specs.Merge.{signed_count}
use Rattle.jj_merges.proofs.StorageLaws.{is_merge_storage, inline_has_one}
use Rattle.jj_merges.proofs.FlattenLaws.{AreOdd-push, flattened_terms-push_even, flattened_terms-push_odd, odd_flattened, count-flattened_terms}
use Rattle.jj_merges.proofs.merge.flatten.flatten_remaining.Goals as goal

pub loop-remove-init : goal.loop-remove-init
loop-remove-init g c =
    let first = c.args.first in (
      first ∷ [],
      refl,
      omega arith,
      AreOdd-push [] first (λ k d hk. absurd (omega arith)) c.as_slice-first_len.ensures.odd,
      inline_has_one c.first.inside.terms c.first.invariant,
      c.first.view_is ∙ sym (append-nil first),
    )

pub loop-remove-preserved : goal.loop-remove-preserved
loop-remove-preserved g c =
    let now = c.loop-remove.invariant in
    let seen = now.0 in
    let r = c.in-Some.remove in
    let a = c.in-Some-next.add in
    let more = length-append seen (r ∷ []) in (
      (seen ++ r ∷ []) ++ a ∷ [],
      append_assoc (seen ++ r ∷ []) (a ∷ []) _
          ∙ (ap (λ l. (seen ++ r ∷ []) ++ l) (sym c.in-Some-next.ensures.steps)
          ∙ (append_assoc seen (r ∷ []) _ ∙ (ap (λ l. seen ++ l) (sym c.in-Some.ensures.steps) ∙ now.1))),
      omega (arith, length-append (seen ++ r ∷ []) (a ∷ []), more, now.2),
      AreOdd-push (seen ++ r ∷ []) a (AreOdd-push seen r now.3 c.in_ok-append_inverse.ensures.odd) c.in_ok-append_merge-in-Some-next.ensures.odd,
      c.in_ok-append_merge-in-Some-next.ensures.inline_has_one,
      c.in_ok-append_merge-in-Some-next.ensures.ok
          ∙ (ap (λ l. l ++ a) (c.in_ok-append_inverse.ensures.ok ∙ (ap (λ l. l ++ inverse_terms r) now.5 ∙ sym (flattened_terms-push_odd seen r now.2)))
          ∙ sym (flattened_terms-push_even (seen ++ r ∷ []) a (omega (arith, more, now.2)))),
    )

pub invariant_of-result : goal.invariant_of-result
invariant_of-result g c =
    let now = c.loop-remove.invariant in
    is_merge_storage c.loop-remove.terms now.4 (rw now.5 (odd_flattened now.0 now.3 now.2))

pub returns-clause-counts : goal.returns-clause-counts
returns-clause-counts g c eq v =
    let now = c.loop-remove.invariant in
    let all : now.0 ≡ c.args.first ∷ c.args.merges.now = sym (append-nil now.0) ∙ (ap (λ l. now.0 ++ l) (sym c.in_default.ensures.steps.0) ∙ now.1) in
    ap (λ m. signed_count eq m v) now.5 ∙ (count-flattened_terms eq v now.0 now.3 ∙ ap (λ ms. nested_count eq ms v) all)

pub append_inverse-requires : goal.append_inverse-requires
append_inverse-requires g c = (search rules, (search rules, c.loop-remove.invariant.4))

pub append_merge-requires : goal.append_merge-requires
append_merge-requires g c = (search rules, (search rules, c.in_ok-append_inverse.ensures.inline_has_one))

pub loop-remove-smaller : goal.loop-remove-smaller
loop-remove-smaller g c = omega (arith, ap length c.in-Some.ensures.steps, ap length c.in-Some-next.ensures.steps)

pub unreachable-requires : goal.unreachable-requires
unreachable-requires g c =
    let now = c.loop-remove.invariant in
    omega (arith, c.requires, now.2, ap length now.1, length-append now.0 c.loop-remove.merges, ap length c.in-Some.ensures.steps, ap length c.in-None.ensures.steps.0)

pub returns-clause-terms : goal.returns-clause-terms
returns-clause-terms g c =
    let now = c.loop-remove.invariant in
    let all : now.0 ≡ c.args.first ∷ c.args.merges.now = sym (append-nil now.0) ∙ (ap (λ l. now.0 ++ l) (sym c.in_default.ensures.steps.0) ∙ now.1) in
    now.5 ∙ ap flattened_terms all
