use Rattle.std.proofs.Common.{◌≡◌, length, arith, ◌∙◌, ap, Some, None}
use Rattle.std.specs.Prelude.{slice_index, position}
use Rattle.std.proofs.lemmas.Result.{IfOk-weaker}
use Rattle.jj_merges.specs.Merge as merge
use Rattle.jj_merges.specs.Simplify.{SideIndices, equal_at, simplified_indices}
use Rattle.jj_merges.proofs.Cancellation.{simplified_sides}
use Rattle.jj_merges.proofs.FirstMatch.{position-at}
use Rattle.jj_merges.proofs.CancelLoop.{LoopInvariant-start, LoopInvariant-found, LoopInvariant-passed, LoopInvariant-done}
use Rattle.jj_merges.proofs.merge.cancellation.simplified_indices.Goals as goal

pub loop-add_at-init : goal.loop-add_at-init
loop-add_at-init g c = rw (c.in_ok-adds.ensures.adds, c.in_ok-adds.ensures.removes) (LoopInvariant-start g.T.PartialEq.eq c.args.values.now c.requires)

pub loop-add_at-preserved-in-Some : goal.loop-add_at-preserved-in-Some
loop-add_at-preserved-in-Some g c =
    let same = equal_at g.T.PartialEq.eq c.args.values.now in
    let s : SideIndices = record { adds = c.loop-add_at.adds.items; removes = c.loop-add_at.removes.items } in
    let found : Some c.in-Some.remove_at ≡ position (same (slice_index s.adds c.loop-add_at.add_at)) s.removes =
    position-at same s.adds s.removes c.deref.result.now c.loop-add_at.add_at c.index.result.now (Some c.in-Some.remove_at) (omega arith) c.index.ensures c.deref.ensures.value c.in-Some.ensures in
    rw (c.cancel_pair.ensures.adds, c.cancel_pair.ensures.removes)
    (LoopInvariant-found same (length c.args.values.now) (simplified_sides g.T.PartialEq.eq c.args.values.now) c.loop-add_at.add_at c.in-Some.remove_at s c.loop-add_at.invariant (omega arith) found)

pub loop-add_at-preserved : goal.loop-add_at-preserved
loop-add_at-preserved g c =
    let same = equal_at g.T.PartialEq.eq c.args.values.now in
    let s : SideIndices = record { adds = c.loop-add_at.adds.items; removes = c.loop-add_at.removes.items } in
    let none : None ≡ position (same (slice_index s.adds c.loop-add_at.add_at)) s.removes =
    position-at same s.adds s.removes c.deref.result.now c.loop-add_at.add_at c.index.result.now None (omega arith) c.index.ensures c.deref.ensures.value c.in-None.ensures in
    LoopInvariant-passed same (length c.args.values.now) (simplified_sides g.T.PartialEq.eq c.args.values.now) c.loop-add_at.add_at s c.loop-add_at.invariant (omega arith) none

pub returns : goal.returns
unfolding simplified_indices
returns g c =
    let same = equal_at g.T.PartialEq.eq c.args.values.now in
    let s : SideIndices = record { adds = c.loop-add_at.adds.items; removes = c.loop-add_at.removes.items } in
    let e = LoopInvariant-done same (length c.args.values.now) (simplified_sides g.T.PartialEq.eq c.args.values.now) c.loop-add_at.add_at s c.loop-add_at.invariant (omega arith) in
    IfOk-weaker c.interleave.result _ _ (λ indices h. h ∙ ((ap (λ xs. merge.interleave xs c.deref-3.result.now) c.deref-2.ensures.value ∙ ap (λ ys. merge.interleave s.adds ys) c.deref-3.ensures.value) ∙ ap (λ t. merge.interleave t.adds t.removes) e)) c.interleave.ensures
