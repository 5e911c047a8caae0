use Rattle.std.proofs.Common.{arith, ap, length}
use Rattle.std.proofs.lemmas.List.Elements.{length_all_zip}
use Rattle.jj_merges.proofs.StorageLaws.{is_merge_storage}
use Rattle.jj_merges.proofs.DerivedCounts.{clones_counts}
use Rattle.jj_merges.proofs.merge.Merge.clone.Goals as goal

pub invariant_of-result : goal.invariant_of-result
invariant_of-result g c =
    let n = length_all_zip g.T.Clone.is_clone _ _ c.in_ok-terms.ensures.0 in
    is_merge_storage c.in_ok-terms.terms c.in_ok-terms.ensures.1
    (omega (arith, n, ap length c.as_slice.ensures.terms, c.as_slice.ensures.odd))

pub returns-clause-counts : goal.returns-clause-counts
returns-clause-counts g c =
    rw (← c.as_slice.ensures.terms) (clones_counts g.T.Clone.is_clone _ _ c.in_ok-terms.ensures.0)

pub returns-clause-terms : goal.returns-clause-terms
returns-clause-terms g c = rw (← c.as_slice.ensures.terms) c.in_ok-terms.ensures.0
