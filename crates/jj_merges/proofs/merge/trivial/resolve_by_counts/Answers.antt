use Rattle.std.proofs.Common.{arith, sym, ◌∙◌}
use Rattle.std.specs.Option.{option_copied}
use Rattle.std.specs.Prelude.{Contains}
use Rattle.jj_merges.proofs.ResolutionScan.{start, seen_before, balanced, none_yet_added, none_yet_removed, some_added, some_removed, keep_unresolved, is_keep, is_not_keep, resolved_option, unresolved_option, member, copied_is_some, if_copied}
use Rattle.jj_merges.proofs.merge.trivial.resolve_by_counts.Goals as goal
use Rattle.jj_merges.proofs.merge.trivial.resolve_by_counts.Goals.{then-is_some-via-then-is_some, then-is_some-via-else-is_some+then-is_kept_duplicate, then-is_some-2-via-then-is_some-2, then-is_some-2-via-else-is_some-2+then-eq, then-removes-adds+else-is_some+else-is_kept_duplicate, else-removes-adds+then-adds-removes+else-is_some-2+else-eq, else-removes-adds+else-adds-removes}

pub loop-index-init : goal.loop-index-init
loop-index-init g c = start g.T.PartialEq.eq g.met.T.Eq.laws c.args.values.now c.args.same_change

pub loop-index-preserved-then-contains_from_end : goal.loop-index-preserved-then-contains_from_end
loop-index-preserved-then-contains_from_end g c =
    seen_before g.T.PartialEq.eq g.met.T.Eq.laws c.args.values.now c.args.same_change c.index-values-index.result (option_copied c.loop-index.added) (option_copied c.loop-index.removed) c.loop-index.index
    c.loop-index-test.true c.index-values-index.is (sym c.contains_from_end.ensures ∙ c.if-contains_from_end.true) c.loop-index.invariant

pub returns-then-is_some-clause-unresolved : goal.returns-then-is_some-clause-unresolved
returns-then-is_some-clause-unresolved g c =
    let eq = g.T.PartialEq.eq in
    let m = c.args.values.now in
    let x = c.index-values-index.result in
    let new = sym c.contains_from_end.ensures ∙ c.if-contains_from_end.false in
    elim c.then-is_some.branch [
      | then-is_some-via-then-is_some w ↦
          some_added eq g.met.T.Eq.laws m c.args.same_change x (option_copied c.loop-index.added) (option_copied c.loop-index.removed) c.loop-index.index
          (copied_is_some c.loop-index.added ∙ sym c.is_some.ensures ∙ w.if-is_some.true) new (omega arith) c.loop-index.invariant
      | then-is_some-via-else-is_some+then-is_kept_duplicate w ↦
          let repeated = w.is_kept_duplicate.ensures.0 w.if-is_kept_duplicate.true in
          keep_unresolved eq g.met.T.Eq.laws m c.args.same_change x repeated.0 (λ e. omega (arith, e)) (λ e. repeated.1 (omega (arith, e)))
    ]

pub returns-then-is_some-2-clause-unresolved : goal.returns-then-is_some-2-clause-unresolved
returns-then-is_some-2-clause-unresolved g c =
    let eq = g.T.PartialEq.eq in
    let m = c.args.values.now in
    let x = c.index-values-index.result in
    let new = sym c.contains_from_end.ensures ∙ c.if-contains_from_end.false in
    elim c.then-is_some-2.branch [
      | then-is_some-2-via-then-is_some-2 w ↦
          some_removed eq g.met.T.Eq.laws m c.args.same_change x (option_copied c.loop-index.added) (option_copied c.loop-index.removed) c.loop-index.index
          (copied_is_some c.loop-index.removed ∙ sym c.is_some-then-adds-removes.ensures ∙ w.if-is_some-2.true) new (omega arith) c.loop-index.invariant
      | then-is_some-2-via-else-is_some-2+then-eq w ↦
          keep_unresolved eq g.met.T.Eq.laws m c.args.same_change x (is_keep c.args.same_change (sym w.eq.ensures ∙ w.if-eq.true)) (λ e. omega (arith, e)) (λ e. omega (arith, e))
    ]

pub loop-index-preserved : goal.loop-index-preserved
loop-index-preserved g c =
    let eq = g.T.PartialEq.eq in
    let m = c.args.values.now in
    let x = c.index-values-index.result in
    let i = c.loop-index.index in
    let change = c.args.same_change in
    let added = option_copied c.loop-index.added in
    let removed = option_copied c.loop-index.removed in
    elim c.if-removes-adds.branch [
      | then-removes-adds+else-is_some+else-is_kept_duplicate w ↦
          rw (w.added-is, w.removed-is) (none_yet_added eq g.met.T.Eq.laws m change x added removed i (copied_is_some c.loop-index.added ∙ sym w.is_some.ensures ∙ w.if-is_some.false)
          c.loop-index-test.true c.index-values-index.is (omega arith) (λ r. let yes = w.is_kept_duplicate.ensures.1 (r.0, λ e. r.1 (omega (arith, e))) in let no = w.if-is_kept_duplicate.false in cc) c.loop-index.invariant)
      | else-removes-adds+then-adds-removes+else-is_some-2+else-eq w ↦
          rw (w.added-is, w.removed-is) (none_yet_removed eq g.met.T.Eq.laws m change (is_not_keep change (sym w.eq.ensures ∙ w.if-eq.false)) x added removed i
          (copied_is_some c.loop-index.removed ∙ sym w.is_some-then-adds-removes.ensures ∙ w.if-is_some-2.false) c.loop-index-test.true c.index-values-index.is (omega arith) c.loop-index.invariant)
      | else-removes-adds+else-adds-removes w ↦
          rw (w.added-is, w.removed-is) (balanced eq g.met.T.Eq.laws m change x added removed i c.loop-index-test.true c.index-values-index.is (omega arith) c.loop-index.invariant)
    ]

pub returns-clause-member : goal.returns-clause-member
returns-clause-member g c =
    if_copied (Contains c.args.values.now) c.loop-index.added
    (member g.T.PartialEq.eq g.met.T.Eq.laws c.args.values.now c.args.same_change (option_copied c.loop-index.added) (option_copied c.loop-index.removed) c.loop-index.index c.loop-index.invariant)

pub returns-clause-resolved : goal.returns-clause-resolved
returns-clause-resolved g c =
    if_copied _ c.loop-index.added
    (resolved_option g.T.PartialEq.eq g.met.T.Eq.laws c.args.values.now c.args.same_change (option_copied c.loop-index.added) (option_copied c.loop-index.removed) c.loop-index.index (omega arith) c.loop-index.invariant)

pub returns-clause-unresolved : goal.returns-clause-unresolved
returns-clause-unresolved g c =
    unresolved_option g.T.PartialEq.eq g.met.T.Eq.laws c.args.values.now c.args.same_change c.loop-index.added (option_copied c.loop-index.removed) c.loop-index.index (omega arith) c.loop-index.invariant
