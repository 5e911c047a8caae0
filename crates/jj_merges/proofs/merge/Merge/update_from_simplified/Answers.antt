use Rattle.std.proofs.Common.{◌≡◌, ◌∙◌, ◌+◌, ◌<◌, ◌∷◌, suc, true, get_or, sym, ap, arith, rules, length, drop, subst}
use Rattle.std.specs.Prelude.{slice_get, slice_set}
use Rattle.std.proofs.lemmas.List.{length-drop, length-set}
use Rattle.std.proofs.Math.Seq.{drop-cons}
use Rattle.jj_merges.specs.Merge.{AreTermwiseEqual}
use Rattle.jj_merges.specs.Simplify.{simplified_indices, at_indices}
use Rattle.jj_merges.specs.Terms.{items}
use Rattle.jj_merges.proofs.TermwiseLaws.{simplified_in_range, length-at_indices}
use Rattle.jj_merges.proofs.SimplifiedLaws.{is_cancellation}
use Rattle.jj_merges.proofs.UpdateLaws.{written, update_counts, at_indices-written, slice_get-written, written_done, AllZip-written, AllZip-refl}
use Rattle.jj_merges.proofs.merge.Merge.update_from_simplified.Goals as goal

pub set-requires : goal.set-requires
set-requires g c =
    let eq = g.T.PartialEq.eq in
    let ps : c.deref-index-items.result.now ≡ simplified_indices eq c.args.self = c.deref-index-items.ensures.value ∙ (c.in_ok-indices.ensures ∙ ap (simplified_indices eq) c.as_slice.ensures.terms) in
    let i = c.loop-index.index-index in
    let within : i < length (simplified_indices eq c.args.self) = omega (arith, ap length ps, c.loop-index-test.true) in
    (search rules, rw ps (omega (arith, simplified_in_range eq c.args.self c.as_slice.ensures.odd i 0 within, c.loop-index.invariant.1)))

pub loop-index-preserved : goal.loop-index-preserved
loop-index-preserved g c =
    let ps = c.deref-index-items.result.now in
    let i = c.loop-index.index-index in
    let p = get_or ps i 0 in
    let ts = items c.loop-index.terms in
    let next = c.next.new.self in
    let x = c.in-Some.update in
    let now = c.loop-index.invariant in
    let more : suc i ≡ i + 1 = omega arith in
    let at : drop i ps ≡ p ∷ drop (i + 1) ps = drop-cons ps i 0 c.loop-index-test.true ∙ ap (λ n. p ∷ drop n ps) more in
    let step : written ts (drop i ps) c.loop-index.updates ≡ written (slice_set ts p x) (drop (i + 1) ps) next =
    ap (λ qs. written ts qs c.loop-index.updates) at ∙ ap (λ us. written ts (p ∷ drop (i + 1) ps) us) c.in-Some.ensures.steps in (
      c.set.ensures.is_merge_storage now.0,
      ap length c.set.ensures.items ∙ (length-set ts p x ∙ now.1),
      ap (λ us. written us (drop (i + 1) ps) next) c.set.ensures.items ∙ (sym step ∙ now.2),
      omega (arith, length-drop (i + 1) ps, length-drop i ps, now.3, ap length c.in-Some.ensures.steps),
    )

-- the terms after the loop
final : (g : _) (c : goal.After-drop-indices g) → items c.loop-index.terms ≡ written c.args.self (simplified_indices g.T.PartialEq.eq c.args.self) c.args.simplified
final g c =
    let eq = g.T.PartialEq.eq in
    let ps : c.deref-index-items.result.now ≡ simplified_indices eq c.args.self = c.deref-index-items.ensures.value ∙ (c.in_ok-indices.ensures ∙ ap (simplified_indices eq) c.as_slice.ensures.terms) in
    let now = c.loop-index.invariant in
    sym (written_done (items c.loop-index.terms) (drop c.loop-index.index-index c.deref-index-items.result.now) c.loop-index.updates
    (omega (arith, length-drop c.loop-index.index-index c.deref-index-items.result.now, c.loop-index-test.false)))
    ∙ (now.2 ∙ ap (λ qs. written c.args.self qs c.args.simplified) ps)

pub returns-clause-updated : goal.returns-clause-updated
returns-clause-updated g c =
    let eq = g.T.PartialEq.eq in
    let m = c.args.self in
    let odd = c.as_slice.ensures.odd in
    ap (λ u. at_indices u (simplified_indices eq m)) (final g c)
    ∙ at_indices-written m (simplified_indices eq m) c.args.simplified (c.requires ∙ length-at_indices eq m odd) (simplified_in_range eq m odd) (is_cancellation eq m odd).distinct

pub returns-clause-unchanged : goal.returns-clause-unchanged
returns-clause-unchanged g c p h =
    ap (λ u. slice_get u p) (final g c) ∙ slice_get-written c.args.self (simplified_indices g.T.PartialEq.eq c.args.self) c.args.simplified p h

pub returns-clause-counts : goal.returns-clause-counts
returns-clause-counts g c =
    update_counts g.T.PartialEq.eq g.met.T.PartialEq.laws c.args.self (items c.loop-index.terms) c.args.simplified c.as_slice.ensures.odd
    c.loop-index.invariant.1 (returns-clause-updated g c) (returns-clause-unchanged g c)

pub returns-clause-round_trip : goal.returns-clause-round_trip
returns-clause-round_trip g c equal h =
    let eq = g.T.PartialEq.eq in
    let m = c.args.self in
    subst (λ u. AreTermwiseEqual eq m u) (sym (final g c))
    (AllZip-written (λ x y. eq x y ≡ true) m m (simplified_indices eq m) c.args.simplified (AllZip-refl (λ x y. eq x y ≡ true) equal.refl m) (simplified_in_range eq m c.as_slice.ensures.odd) h)

pub simplified_indices-requires : goal.simplified_indices-requires
simplified_indices-requires g c = rw c.as_slice.ensures.terms c.as_slice.ensures.odd

pub loop-index-init : goal.loop-index-init
loop-index-init g c =
    let eq = g.T.PartialEq.eq in
    let ps = c.deref-index-items.result.now in
    let same : ps ≡ simplified_indices eq c.args.self = c.deref-index-items.ensures.value ∙ (c.in_ok-indices.ensures ∙ ap (simplified_indices eq) c.as_slice.ensures.terms) in
    let us : c.into_iter-updates.result ≡ c.args.simplified = c.into_iter-updates.ensures.into_iter_gives.0 in (
      c.self.invariant,
      ap length c.self.view_is,
      ap (λ ts. written ts ps c.into_iter-updates.result) c.self.view_is ∙ ap (written c.args.self ps) us,
      ap length us ∙ (c.requires ∙ (length-at_indices eq c.args.self c.as_slice.ensures.odd ∙ sym (ap length same))),
    )

pub loop-index-smaller : goal.loop-index-smaller
loop-index-smaller g c = omega (arith, ap length c.in-Some.ensures.steps)

pub unreachable-requires : goal.unreachable-requires
unreachable-requires g c =
    omega (arith, length-drop c.loop-index.index-index c.deref-index-items.result.now, c.loop-index.invariant.3, ap length c.in-None.ensures.steps.0, c.loop-index-test.true)

pub invariant_of-result : goal.invariant_of-result
invariant_of-result g c = c.loop-index.invariant.0

pub returns-clause-len : goal.returns-clause-len
returns-clause-len g c = c.loop-index.invariant.1
