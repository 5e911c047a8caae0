use Rattle.std.proofs.Common.{◌∷◌, [], arith, ap, length, length-append}
use Rattle.std.proofs.lemmas.List.{take_all}
use Rattle.jj_merges.specs.Terms.{items}
use Rattle.jj_merges.proofs.ClonePrefixes.{clones_more}
use Rattle.jj_merges.proofs.StorageLaws.{is_merge_storage}
use Rattle.jj_merges.proofs.merge.cancellation.clone_at_indices.Goals as goal

pub loop-index-preserved : goal.loop-index-preserved
loop-index-preserved g c =
    let clone = c.in_ok-push_clone.ensures.ok in (
      c.in_ok-push_clone.ensures.inline_has_one,
      omega (arith, ap length clone.2, length-append (items c.loop-index.terms) (clone.0 ∷ []), c.loop-index.invariant.1),
      rw clone.2
          (clones_more g.T.Clone.is_clone c.args.values.now c.args.indices.now (items c.loop-index.terms) c.loop-index.index-index c.index-values-index.result clone.0
          (omega arith) (c.requires.in_range c.loop-index.index-index 0 (omega arith)) c.index-values-index.is clone.1 c.loop-index.invariant.2),
    )

pub loop-index-init : goal.loop-index-init
loop-index-init g c =
    let e = c.in_ok-terms.ensures.0 in
    (c.in_ok-terms.ensures.1, ap length e, rw e tt)

pub bounds-values-index : goal.bounds-values-index
bounds-values-index g c = c.requires.in_range c.loop-index.index-index 0 c.loop-index-test.true

pub invariant_of-result : goal.invariant_of-result
invariant_of-result g c =
    is_merge_storage c.loop-index.terms c.loop-index.invariant.0
    (omega (arith, c.loop-index.invariant.1, c.loop-index-test.false, c.loop-index.auto.index-index-end, c.requires.odd))

pub returns : goal.returns
returns g c = rw (← take_all c.loop-index.index-index c.args.indices.now c.loop-index-test.false) c.loop-index.invariant.2
