use Rattle.std.proofs.Common.{ℕ, ◌+◌, List, map, string_bytes, subst, arith}
use Rattle.jj_conflicts.specs.Rendering.{label_at, diff_label, IsDiffSection}
use Rattle.jj_conflicts.proofs.DiffLoops.{continues_more}
use Rattle.jj_conflicts.proofs.conflicts.sections.diff_sections.Goals as goal

pub loop-rest-preserved : goal.loop-rest-preserved
loop-rest-preserved c =
    let labels : List (List ℕ) = map string_bytes c.args.labels.now in
    let i : ℕ = c.loop-rest.index in
    let label : List ℕ = diff_label (label_at labels (i + 1)) (label_at labels i) in
    let section : IsDiffSection c.args.marker_len label c.index-rest-1.result.items c.index-rest-0.result.items c.in_ok-section.section.items
    = subst (λ b. IsDiffSection c.args.marker_len label b c.index-rest-0.result.items c.in_ok-section.section.items) c.deref.ensures.value
    (subst (λ s. IsDiffSection c.args.marker_len label c.deref.result.now s c.in_ok-section.section.items) c.deref-in-loop-rest.ensures.value c.in_ok-section.ensures) in
    record {
      continues = rw c.in_ok-extend_from_slice.ensures.items (rw c.deref-in-loop-rest-2.ensures.value (rw c.split_at.ensures.back
          (continues_more c.args.marker_len labels c.args.terms.now c.loop-rest.text.items i c.loop-rest.rest.now
          c.index-rest-1.result c.index-rest-0.result c.in_ok-section.section.items c.loop-rest.invariant.continues
          (omega (arith, c.loop-rest-test.true, c.loop-rest.invariant.odd)) c.index-rest-1.is c.index-rest-0.is section)));
      odd = omega (arith, c.split_at.ensures.back_len, c.loop-rest.invariant.odd);
      index = omega (arith, c.split_at.ensures.back_len, c.loop-rest.invariant.index);
    }
