use Rattle.std.proofs.Common.{ap, arith, length}
use Rattle.std.specs.Option.{option_copied}
use Rattle.jj_merges.specs.Options.{IsOptionClone}
use Rattle.jj_merges.specs.Terms.{items}
use Rattle.jj_merges.proofs.ClonePrefixes.{image_clones_more, image_clones_all, length_image_clones}
use Rattle.jj_merges.proofs.StorageLaws.{is_merge_storage}
use Rattle.jj_merges.proofs.DerivedCounts.{clones_counts}
use Rattle.jj_merges.proofs.merge.termwise.Merge+Option+ref+T.cloned.Goals as goal

pub loop-term-preserved : goal.loop-term-preserved
loop-term-preserved g c =
    let clone = c.in_ok-push_option_clone.ensures.ok in (
      c.in_ok-push_option_clone.ensures.inline_has_one,
      image_clones_more option_copied (IsOptionClone g.T.Clone.is_clone) _ _ _ c.loop-term.invariant.1 c.term-item.result clone.0 _ c.loop-term-test.true c.term-item.is
          clone.1 clone.2,
    )

pub invariant_of-result : goal.invariant_of-result
invariant_of-result g c =
    let n = length_image_clones option_copied (IsOptionClone g.T.Clone.is_clone) _ _ _ c.loop-term.invariant.1 (omega arith) in
    is_merge_storage c.loop-term.terms c.loop-term.invariant.0 (omega (arith, n, ap length c.as_slice-values.ensures.terms, c.as_slice-values.ensures.odd))

pub loop-term-init : goal.loop-term-init
loop-term-init g c = (c.in_ok-terms.ensures.1, rw c.in_ok-terms.ensures.0 tt)

pub returns-clause-terms : goal.returns-clause-terms
returns-clause-terms g c =
    rw (← c.as_slice-values.ensures.terms)
    (image_clones_all option_copied (IsOptionClone g.T.Clone.is_clone) c.as_slice-values.result.now c.loop-term.term-index (items c.loop-term.terms) c.loop-term.invariant.1 c.loop-term-test.false)

pub returns-clause-counts : goal.returns-clause-counts
returns-clause-counts g c = clones_counts (IsOptionClone g.T.Clone.is_clone) _ (items c.loop-term.terms) (returns-clause-terms g c)
