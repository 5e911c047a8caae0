use Rattle.std.proofs.Common.{below_more, arith, ap, sym, ◌∙◌}
use Rattle.jj_diff.proofs.Rows.{none_at, length-bytes_of}
use Rattle.jj_diff.proofs.diff.rows.are_equal.Goals as goal

pub loop-index-preserved : goal.loop-index-preserved
loop-index-preserved g c = below_more _ _ c.loop-index.invariant
    (ap g.C.CompareBytes.canonical (none_at c.args.row.now c.loop-index.index) ∙ c.eq.ensures.equal c.if-not-eq.false
    ∙ ap g.C.CompareBytes.canonical (sym (none_at c.args.row.now 0)))

pub returns-then-not-eq-clause-different : goal.returns-then-not-eq-clause-different
returns-then-not-eq-clause-different g c = λ f equal.
    c.eq.ensures.different c.if-not-eq.true
    (ap g.C.CompareBytes.canonical (sym (none_at c.args.row.now c.loop-index.index))
    ∙ equal c.loop-index.index (omega (arith, length-bytes_of c.args.row.now)) ∙ ap g.C.CompareBytes.canonical (none_at c.args.row.now 0))
