use Rattle.std.proofs.Common.{map, string_bytes, ap, ◌∙◌, subst, arith}
use Rattle.jj_conflicts.specs.Contents.{contents}
use Rattle.jj_conflicts.specs.Rendering.{conflict_count, IsRenderedFrom}
use Rattle.jj_conflicts.proofs.LoopLaws.{renders_end}
use Rattle.jj_conflicts.proofs.conflicts.render.materialize.Goals as goal

pub returns : goal.returns
returns c =
    subst (λ ls. IsRenderedFrom c.args.style c.args.marker_len ls 0 (conflict_count (contents c.args.hunks.now)) (contents c.args.hunks.now) c.loop-hunk.text.items)
    (ap (map string_bytes) c.as_slice-labels.ensures.terms ∙ c.as_merge.ensures)
    (subst (λ k. IsRenderedFrom c.args.style c.args.marker_len (map string_bytes c.as_slice-labels.result.now) 0 k (contents c.args.hunks.now) c.loop-hunk.text.items)
    c.count_conflicts-count.ensures
    (renders_end c.args.style c.args.marker_len (map string_bytes c.as_slice-labels.result.now) c.count_conflicts-count.result
    (contents c.args.hunks.now) c.loop-hunk.text.items c.loop-hunk.number c.args.hunks.now c.loop-hunk.hunk-index
    (omega (arith, c.loop-hunk-test.false)) c.loop-hunk.invariant.renders))
