use Rattle.std.proofs.Common.{◌≡◌, ◌∙◌, arith, rules}
use Rattle.std.proofs.lemmas.Result.{IfOk-weaker}
use Rattle.std.proofs.lemmas.List.Elements.{length_all_zip}
use Rattle.jj_merges.specs.Simplify.{simplified_indices}
use Rattle.jj_merges.proofs.TermwiseLaws.{simplified_in_range, odd-simplified_indices}
use Rattle.jj_merges.proofs.SimplifiedLaws.{whole_at, one_term_disjoint}
use Rattle.jj_merges.proofs.StorageLaws.{is_merge_storage}
use Rattle.jj_merges.proofs.merge.cancellation.clone_simplified.Goals as goal

pub invariant_of-result : goal.invariant_of-result
invariant_of-result g c =
    let n = length_all_zip g.T.Clone.is_clone _ _ c.in_ok-terms.ensures.0 in
    is_merge_storage c.in_ok-terms.terms c.in_ok-terms.ensures.1 (omega (arith, n, c.requires))

pub returns-then-values-eq1 : goal.returns-then-values-eq1
returns-then-values-eq1 g c =
    let whole = whole_at g.T.PartialEq.eq c.args.values.now c.requires (one_term_disjoint g.T.PartialEq.eq c.args.values.now c.if-values-eq1.true) in
    rw whole c.in_ok-terms.ensures.0

pub clone_at_indices-requires : goal.clone_at_indices-requires
clone_at_indices-requires g c =
    let indices : c.deref.result.now ≡ simplified_indices g.T.PartialEq.eq c.args.values.now = c.deref.ensures.value ∙ c.in_ok-indices.ensures in (
      search rules,
      (rw indices (simplified_in_range g.T.PartialEq.eq c.args.values.now c.requires), rw indices (odd-simplified_indices g.T.PartialEq.eq c.args.values.now c.requires)),
    )

pub returns : goal.returns
returns g c =
    let indices : c.deref.result.now ≡ simplified_indices g.T.PartialEq.eq c.args.values.now = c.deref.ensures.value ∙ c.in_ok-indices.ensures in
    IfOk-weaker c.clone_at_indices.result _ _ (λ s h. rw (← indices) h) c.clone_at_indices.ensures
