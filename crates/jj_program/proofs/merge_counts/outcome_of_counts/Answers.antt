use Rattle.std.proofs.Common.{◌∙◌, arith, sym}
use Rattle.jj_merges.proofs.ResolutionScan.{is_keep, is_not_keep}
use Rattle.jj_program.proofs.CountDecisions.{balanced, conflict_added, conflict_kept, conflict_removed, conflict_repeated, decided_at_end, first_added, first_removed, start}
use Rattle.jj_program.proofs.merge_counts.outcome_of_counts.Goals as goal
use Rattle.jj_program.proofs.merge_counts.outcome_of_counts.Goals.{then-count+else-is_some+else-is_kept_duplicate, else-count+then-count-2+else-eq+else-is_some-2, else-count+else-count-2}

pub loop-index-init : goal.loop-index-init
loop-index-init c = record {
  decided = start c.args.counts.now c.args.same_change;
  within = omega arith;
}

pub returns-then-is_some : goal.returns-then-is_some
returns-then-is_some c terms all =
    conflict_added c.args.counts.now c.args.same_change c.loop-index.index c.loop-index-test.true terms all
    c.loop-index.added c.loop-index.removed (sym c.is_some.ensures ∙ c.if-is_some.true) c.if-count.true c.loop-index.invariant.decided

pub returns-then-is_kept_duplicate : goal.returns-then-is_kept_duplicate
returns-then-is_kept_duplicate c terms all =
    conflict_repeated c.args.counts.now c.args.same_change c.loop-index.index c.loop-index-test.true terms all
    (c.is_kept_duplicate.ensures.0 c.if-is_kept_duplicate.true) c.if-count.true

pub returns-then-eq : goal.returns-then-eq
returns-then-eq c terms all =
    conflict_kept c.args.counts.now c.args.same_change c.loop-index.index c.loop-index-test.true terms all
    (is_keep c.args.same_change (sym c.eq.ensures ∙ c.if-eq.true)) c.if-count-2.true

pub returns-then-is_some-2 : goal.returns-then-is_some-2
returns-then-is_some-2 c terms all =
    conflict_removed c.args.counts.now c.args.same_change c.loop-index.index c.loop-index-test.true terms all
    c.loop-index.added c.loop-index.removed (sym c.is_some-then-count-2.ensures ∙ c.if-is_some-2.true) c.if-count-2.true c.loop-index.invariant.decided

pub loop-index-preserved : goal.loop-index-preserved
loop-index-preserved c =
    let counts = c.args.counts.now in
    let change = c.args.same_change in
    let k = c.loop-index.index in
    elim c.if-count.branch [
      | then-count+else-is_some+else-is_kept_duplicate w ↦
          rw (w.added-is, w.removed-is) (record {
            decided = first_added counts change k c.loop-index-test.true c.loop-index.added c.loop-index.removed
                (sym w.is_some.ensures ∙ w.if-is_some.false) w.if-count.true
                (λ repeated. let yes = w.is_kept_duplicate.ensures.1 repeated in let no = w.if-is_kept_duplicate.false in cc)
                c.loop-index.invariant.decided;
            within = omega arith;
          })
      | else-count+then-count-2+else-eq+else-is_some-2 w ↦
          rw (w.added-is, w.removed-is) (record {
            decided = first_removed counts change k c.loop-index-test.true c.loop-index.added c.loop-index.removed
                (sym w.is_some-then-count-2.ensures ∙ w.if-is_some-2.false)
                (is_not_keep change (sym w.eq.ensures ∙ w.if-eq.false)) w.if-count-2.true c.loop-index.invariant.decided;
            within = omega arith;
          })
      | else-count+else-count-2 w ↦
          rw (w.added-is, w.removed-is) (record {
            decided = balanced counts change k c.loop-index-test.true c.loop-index.added c.loop-index.removed
                (omega arith) c.loop-index.invariant.decided;
            within = omega arith;
          })
    ]

pub returns : goal.returns
returns c terms all =
    decided_at_end c.args.counts.now c.args.same_change c.loop-index.index c.loop-index.added c.loop-index.removed
    (omega arith) c.loop-index.invariant.decided terms all
