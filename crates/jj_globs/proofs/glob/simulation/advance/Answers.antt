use Rattle.std.proofs.Common.{◌≡◌, ◌∙◌, sym, ap, inl, inr, ℕ, length, arith}
use Rattle.std.specs.Prelude.{IsTrue}
use Rattle.jj_globs.specs.GlobNfa.{AnyAhead}
use Rattle.jj_globs.proofs.Transitions.{follows_again, follows_none, take_now}
use Rattle.jj_globs.proofs.glob.simulation.advance.Goals as goal

pub loop-state-preserved-then-state-steps : goal.loop-state-preserved-then-state-steps
loop-state-preserved-then-state-steps g c =
    let inside = c.if-state-steps.true in
    record {
      same = λ P solves.
          follows_again (AnyAhead P c.loop-state.now c.loop-state.next c.args.left.now) (AnyAhead P c.pop_first.new.self c.loop-state.next c.args.left.now)
          (AnyAhead P c.follow.new.now c.follow.new.next c.args.left.now) (AnyAhead P c.args.now.now c.args.next.now c.args.left.now) (IsTrue (P c.in-Some.state c.args.left.now))
          (take_now P c.loop-state.now c.pop_first.new.self c.loop-state.next c.args.left.now c.in-Some.state c.in-Some.ensures.taken.0 c.in-Some.ensures.taken.1)
          (c.follow.ensures.same c.args.below P solves) (c.loop-state.invariant.same P solves);
      from = λ j live. elim (c.follow.ensures.above j live) [
        | inl l ↦ (let old = (c.in-Some.ensures.taken.1 j).0 l in let low = c.in-Some.ensures.first.1 j old.0 in let ne = old.1 in omega (arith, low, ne))
        | inr w ↦ (let low = w.0 in omega (arith, low))
      ];
      now_within = λ j live. elim (c.follow.ensures.above j live) [
        | inl l ↦ c.loop-state.invariant.now_within j ((c.in-Some.ensures.taken.1 j).0 l).0
        | inr w ↦ w.1
      ];
      next_within = λ j live. elim (c.follow.ensures.within j live) [ inl l ↦ c.loop-state.invariant.next_within j l | inr w ↦ w ];
    }

pub returns-then-end_accepts-clause-done : goal.returns-then-end_accepts-clause-done
returns-then-end_accepts-clause-done g c = λ e P solves.
    let high = c.loop-state.invariant.now_within c.in-Some.state c.in-Some.ensures.taken.0 in
    let last : c.in-Some.state ≡ length c.args.steps.now = (let low = c.if-state-steps.false in omega (arith, high, low)) in
    let accepts_from = ap (λ (k : ℕ). P k c.args.left.now) last ∙ solves.at_end c.args.left.now ∙ sym c.end_accepts.ensures ∙ c.if-end_accepts.true in
    (c.loop-state.invariant.same P solves).0 (inl (c.in-Some.state, c.in-Some.ensures.taken.0, accepts_from))

pub loop-state-preserved : goal.loop-state-preserved
loop-state-preserved g c =
    let high = c.loop-state.invariant.now_within c.in-Some.state c.in-Some.ensures.taken.0 in
    let last : c.in-Some.state ≡ length c.args.steps.now = (let low = c.if-state-steps.false in omega (arith, high, low)) in
    record {
      same = λ P solves.
          let refused = ap (λ (k : ℕ). P k c.args.left.now) last ∙ solves.at_end c.args.left.now ∙ sym c.end_accepts.ensures ∙ c.if-end_accepts.false in
          follows_again (AnyAhead P c.loop-state.now c.loop-state.next c.args.left.now) (AnyAhead P c.pop_first.new.self c.loop-state.next c.args.left.now)
          (AnyAhead P c.pop_first.new.self c.loop-state.next c.args.left.now) (AnyAhead P c.args.now.now c.args.next.now c.args.left.now) (IsTrue (P c.in-Some.state c.args.left.now))
          (take_now P c.loop-state.now c.pop_first.new.self c.loop-state.next c.args.left.now c.in-Some.state c.in-Some.ensures.taken.0 c.in-Some.ensures.taken.1)
          (follows_none (AnyAhead P c.pop_first.new.self c.loop-state.next c.args.left.now) (P c.in-Some.state c.args.left.now) refused)
          (c.loop-state.invariant.same P solves);
      from = λ j live. (let old = (c.in-Some.ensures.taken.1 j).0 live in let low = c.in-Some.ensures.first.1 j old.0 in let ne = old.1 in omega (arith, low, ne));
      now_within = λ j live. c.loop-state.invariant.now_within j ((c.in-Some.ensures.taken.1 j).0 live).0;
      next_within = c.loop-state.invariant.next_within;
    }

pub returns-clause-same : goal.returns-clause-same
returns-clause-same g c = λ e P solves.
    let known = c.loop-state.invariant.same P solves in (
      (λ a. known.0 (inr a)),
      (λ x. elim (known.1 x) [ inl a ↦ absurd (c.pop_first.ensures.none c.in_default.is a.0 a.1) | inr a ↦ a ]),
    )
