use Rattle.std.proofs.Common.{◌≡◌, ◌∙◌, ap, arith, rules, length}
use Rattle.std.specs.Fn.{CalledAt}
use Rattle.std.proofs.lemmas.Result.{IfOk-weaker}
use Rattle.jj_merges.specs.Merge.{IsOdd}
use Rattle.jj_merges.specs.Simplify.{simplified_indices}
use Rattle.jj_merges.proofs.CallLaws.{length-CallsReturn}
use Rattle.jj_merges.proofs.TermwiseLaws.{simplified_in_range, odd-simplified_indices}
use Rattle.jj_merges.proofs.merge.Merge.simplify_by.Goals as goal

pub simplified_indices-requires : goal.simplified_indices-requires
simplified_indices-requires g c =
    let long = length-CallsReturn (CalledAt g.F.FnMut) _ _ _ _ c.in_ok-keys.ensures.1 in
    omega (arith, long, ap length c.deref.ensures.value, ap length c.as_slice-values.ensures.terms, c.as_slice-values.ensures.odd)

pub clone_at_indices-requires : goal.clone_at_indices-requires
clone_at_indices-requires g c =
    let keys = c.in_ok-keys.keys.items in
    let eq = g.U.PartialEq.eq in
    let long = length-CallsReturn (CalledAt g.F.FnMut) _ _ _ _ c.in_ok-keys.ensures.1 in
    let odd : IsOdd (length keys) = omega (arith, long, ap length c.as_slice-values.ensures.terms, c.as_slice-values.ensures.odd) in
    let indices : c.deref-2.result.now ≡ simplified_indices eq keys = c.deref-2.ensures.value ∙ (c.in_ok-indices.ensures ∙ ap (simplified_indices eq) c.deref.ensures.value) in (
      search rules,
      (
        rw (indices, ← long) (simplified_in_range eq keys odd),
        rw indices (odd-simplified_indices eq keys odd),
      ),
    )

pub returns : goal.returns
returns g c =
    let keys = c.in_ok-keys.keys.items in
    let eq = g.U.PartialEq.eq in
    let long = length-CallsReturn (CalledAt g.F.FnMut) _ _ _ _ c.in_ok-keys.ensures.1 in
    let odd : IsOdd (length keys) = omega (arith, long, ap length c.as_slice-values.ensures.terms, c.as_slice-values.ensures.odd) in
    let indices : c.deref-2.result.now ≡ simplified_indices eq keys = c.deref-2.ensures.value ∙ (c.in_ok-indices.ensures ∙ ap (simplified_indices eq) c.deref.ensures.value) in
    IfOk-weaker c.clone_at_indices.result _ _
    (λ s h. (
      keys,
      c.in_ok-keys.ensures.0,
      rw (← c.as_slice-values.ensures.terms) c.in_ok-keys.ensures.1,
      rw (← indices, ← c.as_slice-values.ensures.terms) h,
    ))
    c.clone_at_indices.ensures
