use Rattle.std.proofs.Common.{map, string_bytes, arith}
use Rattle.jj_conflicts.proofs.LoopLaws.{rendered_one, rendered_more}
use Rattle.jj_conflicts.proofs.conflicts.render.push_hunk.Goals as goal

pub returns-then-terms-eq1-clause-appended : goal.returns-then-terms-eq1-clause-appended
returns-then-terms-eq1-clause-appended c = λ rest tail r.
    rw c.in_ok-extend_from_slice.ensures.items (rw c.deref.ensures.value
    (rendered_one c.args.style c.args.marker_len (map string_bytes c.args.labels.now) c.args.number c.args.count
    c.args.terms.now c.index-terms-0.result c.args.text.now.items c.if-terms-eq1.true c.index-terms-0.is rest tail r))

pub returns-clause-appended : goal.returns-clause-appended
returns-clause-appended c = λ rest tail r.
    rw c.in_ok-extend_from_slice-2.ensures.items (rw c.deref-2.ensures.value
    (rendered_more c.args.style c.args.marker_len (map string_bytes c.args.labels.now) c.args.number c.args.count
    c.args.terms.now c.in_ok-conflict.conflict.items c.args.text.now.items (λ e. omega (arith, e, c.if-terms-eq1.false))
    c.in_ok-conflict.ensures rest tail r))
