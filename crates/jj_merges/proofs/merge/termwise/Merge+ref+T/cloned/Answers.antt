use Rattle.std.proofs.Common.{ap, arith, length}
use Rattle.jj_merges.specs.Terms.{items}
use Rattle.jj_merges.proofs.ClonePrefixes.{image_clones_more, image_clones_all, length_image_clones}
use Rattle.jj_merges.proofs.StorageLaws.{is_merge_storage}
use Rattle.jj_merges.proofs.DerivedCounts.{clones_counts}
use Rattle.jj_merges.proofs.merge.termwise.Merge+ref+T.cloned.Goals as goal

pub loop-term-preserved : goal.loop-term-preserved
loop-term-preserved g c =
    let clone = c.in_ok-push_clone.ensures.ok in (
      c.in_ok-push_clone.ensures.inline_has_one,
      image_clones_more (λ x. x.now) g.T.Clone.is_clone _ _ _ c.loop-term.invariant.1 c.term-item.result clone.0 _ c.loop-term-test.true c.term-item.is
          clone.1 clone.2,
    )

pub invariant_of-result : goal.invariant_of-result
invariant_of-result g c =
    let n = length_image_clones (λ x. x.now) g.T.Clone.is_clone _ _ _ c.loop-term.invariant.1 (omega arith) in
    is_merge_storage c.loop-term.terms c.loop-term.invariant.0 (omega (arith, n, ap length c.as_slice-values.ensures.terms, c.as_slice-values.ensures.odd))

pub returns-clause-counts : goal.returns-clause-counts
returns-clause-counts g c =
    rw (← c.as_slice-values.ensures.terms)
    (clones_counts g.T.Clone.is_clone _ (items c.loop-term.terms) (image_clones_all (λ x. x.now) g.T.Clone.is_clone _ _ _ c.loop-term.invariant.1 (omega arith)))
