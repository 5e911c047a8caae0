use Rattle.std.proofs.Common.{◌≡◌, true, false, inl, inr, refl, arith}
use Rattle.std.proofs.lemmas.Bool.{cases_Bool}
use Rattle.jj_globs.proofs.Transitions.{started, moved, accepted, ended, no_bytes}
use Rattle.jj_globs.proofs.glob.simulation.run.Goals as goal

pub loop-rest-init : goal.loop-rest-init
loop-rest-init g c = record {
  same = λ P solves. started P c.args.now.now c.insert.new.self c.args.bytes.now 0 c.requires.now_none c.insert.ensures.live;
  next_none = c.requires.next_none;
  within = λ j live. elim ((c.insert.ensures.live j).0 live) [ inl l ↦ absurd (c.requires.now_none j l) | inr e ↦ omega (arith, e) ];
}

pub returns-then-advance : goal.returns-then-advance
returns-then-advance g c = λ P solves. (
  (λ t. accepted P c.loop-rest.now c.loop-rest.next c.loop-rest.left.now _ c.loop-rest.invariant.next_none
      (c.advance.ensures.done c.if-advance.true P solves) (c.loop-rest.invariant.same P solves)),
  (λ x. refl),
)

pub returns-then-advance-2 : goal.returns-then-advance-2
returns-then-advance-2 g c = λ P solves.
    let first = moved P c.loop-rest.now c.loop-rest.next c.advance.new.next c.loop-rest.left.now c.in-Some.field-0-0.now c.in-Some.rest.now _
    c.in-Some.ensures.cases.0 c.loop-rest.invariant.next_none (c.advance.ensures.same c.if-advance.false P solves) (c.loop-rest.invariant.same P solves) in (
      (λ t. accepted P c.advance.new.next c.advance.new.now c.in-Some.rest.now _ (c.advance.ensures.empty c.if-advance.false)
          (c.advance-in-Some.ensures.done c.if-advance-2.true P solves) first),
      (λ x. refl),
    )

pub returns-in_default-split_first : goal.returns-in_default-split_first
returns-in_default-split_first g c = λ P solves.
    let first = moved P c.loop-rest.now c.loop-rest.next c.advance.new.next c.loop-rest.left.now c.in-Some.field-0-0.now c.in-Some.rest.now _
    c.in-Some.ensures.cases.0 c.loop-rest.invariant.next_none (c.advance.ensures.same c.if-advance.false P solves) (c.loop-rest.invariant.same P solves) in
    let none = no_bytes c.in-Some.rest.now c.in_default-split_first.ensures.cases in (
      (λ t. let no : false ≡ true = t in cc),
      (λ x. absurd (ended P c.advance.new.next c.advance.new.now c.advance-in-Some.new.next c.in-Some.rest.now _ none (c.advance-in-Some.ensures.same c.if-advance-2.false P solves) first x)),
    )

pub loop-rest-preserved : goal.loop-rest-preserved
loop-rest-preserved g c = record {
  same = λ P solves.
      let first = moved P c.loop-rest.now c.loop-rest.next c.advance.new.next c.loop-rest.left.now c.in-Some.field-0-0.now c.in-Some.rest.now _
      c.in-Some.ensures.cases.0 c.loop-rest.invariant.next_none (c.advance.ensures.same c.if-advance.false P solves) (c.loop-rest.invariant.same P solves) in
      let second = moved P c.advance.new.next c.advance.new.now c.advance-in-Some.new.next c.in-Some.rest.now c.in-Some-split_first.field-0-0.now c.in-Some-split_first.after.now _
      c.in-Some-split_first.ensures.cases.0 (c.advance.ensures.empty c.if-advance.false) (c.advance-in-Some.ensures.same c.if-advance-2.false P solves) first in
      let skipped = c.skip_inert-left.ensures.same c.args.below P solves in
      ((λ a. second.0 (skipped.0 a)), (λ x. skipped.1 (second.1 x)));
  next_none = c.advance-in-Some.ensures.empty c.if-advance-2.false;
  within = c.skip_inert-left.ensures.within;
}

pub returns : goal.returns
returns g c = λ P solves.
    let none = no_bytes c.loop-rest.left.now c.in_default.ensures.cases in
    let known = c.loop-rest.invariant.same P solves in (
      (λ t. accepted P c.loop-rest.now c.loop-rest.next c.loop-rest.left.now _ c.loop-rest.invariant.next_none (c.advance-2.ensures.done t P solves) known),
      (λ x. elim (cases_Bool c.advance-2.result) [
        | inl t ↦ t
        | inr f ↦ absurd (ended P c.loop-rest.now c.loop-rest.next c.advance-2.new.next c.loop-rest.left.now _ none (c.advance-2.ensures.same f P solves) known x)
      ]),
    )
