use Rattle.std.proofs.Common.{◌≡◌, ◌∙◌, arith, inl, inr, length, subst, sym}
use Rattle.std.proofs.lemmas.Bool.{false≢true, not-false, not-true}
use Rattle.std.proofs.lemmas.Slice.Eq.{bytes_eq-Decides}
use Rattle.jj_program.proofs.ClassedTerms.{AreClassedBelow, classed-all, classed-step}
use Rattle.jj_program.proofs.term_classes.classes_of_sorted.Goals as goal
use Rattle.jj_program.proofs.term_classes.classes_of_sorted.Goals.{then-at-eq0, then-at-eq0-via-then-at-eq0, then-at-eq0-via-else-at-eq0+then-ne, else-at-eq0+else-ne}

pub loop-at-preserved : goal.loop-at-preserved
loop-at-preserved c =
    let terms = c.args.terms.now in
    let entries = c.args.entries.now in
    let l = c.loop-at in
    let next = c.if-at-eq0.class in
    let step = classed-step terms entries c.requires l.classes.items l.at l.class next c.loop-at-test.true l.invariant.size l.invariant.bounds l.invariant.bound l.invariant.classed
    (elim c.if-at-eq0.branch [
      | then-at-eq0 w ↦ inl (
        w.class-is,
        elim w.then-at-eq0.branch [
          | then-at-eq0-via-then-at-eq0 w' ↦ λ up. absurd (omega arith)
          | then-at-eq0-via-else-at-eq0+then-ne w' ↦ λ up e. false≢true (sym (not-true _ (sym w'.ne.ensures ∙ w'.if-ne.true)) ∙ (bytes_eq-Decides _ _).1 e)
        ],
      )
      | else-at-eq0+else-ne w ↦ inr (w.class-is, omega (arith, w.if-at-eq0.false), (bytes_eq-Decides _ _).0 (not-false _ (sym w.ne.ensures ∙ w.if-ne.false)))
    ]) in
    record { size = step.0; bounds = step.1; bound = λ _. step.2; classed = step.3 }

pub returns : goal.returns
returns c =
    let l = c.loop-at in
    let end : l.at ≡ length c.args.entries.now = omega arith in
    classed-all c.args.terms.now c.args.entries.now l.classes.items l.class l.invariant.size l.invariant.bounds c.requires.0
    (subst (λ n. AreClassedBelow c.args.terms.now c.args.entries.now l.classes.items n l.class) end l.invariant.classed)
