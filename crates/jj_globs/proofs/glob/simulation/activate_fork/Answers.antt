use Rattle.std.proofs.Common.{◌+◌, ◌≤◌, length, inl, inr, arith, rules}
use Rattle.std.specs.Prelude.{IsTrue}
use Rattle.jj_globs.specs.GlobNfa.{AnyAhead}
use Rattle.jj_globs.proofs.Transitions.{follows_fork, fork_value}
use Rattle.jj_globs.proofs.glob.simulation.activate_fork.Goals as goal

pub overflow_add-second : goal.overflow_add-second
overflow_add-second g c = let inside = c.requires.inside c.args.state _ c.requires.fork in omega (arith, inside)

pub loop-further-init : goal.loop-further-init
loop-further-init g c =
    let inside = c.requires.inside c.args.state _ c.requires.fork in
    record {
      same = λ below P solves.
          follows_fork (AnyAhead P c.args.now.now c.args.next.now c.args.left.now) (AnyAhead P c.activate.new.now c.activate.new.next c.args.left.now)
          (IsTrue (P (c.args.state + 1) c.args.left.now)) (IsTrue (P (c.args.state + 1 + c.args.further) c.args.left.now)) (IsTrue (P c.args.state c.args.left.now))
          _ (c.activate.ensures.same below P solves) (fork_value c.args.options P c.args.state c.args.further c.args.left.now (solves.at_step c.args.state _ c.requires.fork c.args.left.now))
          ((λ h. h), (λ h. h));
      above = λ j live. elim (c.activate.ensures.above j live) [ inl l ↦ inl l | inr e ↦ (let at = e.0 in inr (omega (arith, at, inside), omega (arith, at, inside))) ];
      within = c.activate.ensures.within;
      from = omega arith;
      inside = omega (arith, inside);
    }

pub activate-requires-in-Some : goal.activate-requires-in-Some
activate-requires-in-Some g c =
    let inside : c.loop-further.second + 1 + c.in-Some.further ≤ length c.args.steps.now = c.requires.inside c.loop-further.second _ c.in-Some.ensures in
    search rules

pub overflow_add-second-in-Some : goal.overflow_add-second-in-Some
overflow_add-second-in-Some g c = let inside = c.requires.inside c.loop-further.second _ c.in-Some.ensures in omega (arith, inside)

pub loop-further-smaller : goal.loop-further-smaller
loop-further-smaller g c = let inside = c.requires.inside c.loop-further.second _ c.in-Some.ensures in omega (arith, inside)

pub loop-further-preserved : goal.loop-further-preserved
loop-further-preserved g c =
    let second = c.loop-further.second in
    let inside = c.requires.inside second _ c.in-Some.ensures in
    record {
      same = λ below P solves.
          follows_fork (AnyAhead P c.loop-further.now c.loop-further.next c.args.left.now) (AnyAhead P c.activate-in-Some.new.now c.activate-in-Some.new.next c.args.left.now)
          (IsTrue (P (second + 1) c.args.left.now)) (IsTrue (P (second + 1 + c.in-Some.further) c.args.left.now)) (IsTrue (P second c.args.left.now))
          _ (c.activate-in-Some.ensures.same below P solves)
          (fork_value c.args.options P second c.in-Some.further c.args.left.now (solves.at_step second _ c.in-Some.ensures c.args.left.now))
          (c.loop-further.invariant.same below P solves);
      above = λ j live. elim (c.activate-in-Some.ensures.above j live) [
        | inl l ↦ c.loop-further.invariant.above j l
        | inr e ↦ (let at = e.0 in let from = c.loop-further.invariant.from in inr (omega (arith, at, from), omega (arith, at, inside)))
      ];
      within = λ j live. elim (c.activate-in-Some.ensures.within j live) [ inl l ↦ c.loop-further.invariant.within j l | inr w ↦ inr w ];
      from = let from = c.loop-further.invariant.from in omega (arith, from);
      inside = inside;
    }

pub returns-clause-same : goal.returns-clause-same
returns-clause-same g c = λ below P solves.
    let last = c.activate-2.ensures.same below P solves in
    let known = c.loop-further.invariant.same below P solves in
    ((λ a. known.0 (last.0 a)), (λ x. last.1 (known.1 x)))

pub returns-clause-above : goal.returns-clause-above
returns-clause-above g c = λ j live. elim (c.activate-2.ensures.above j live) [
  | inl l ↦ c.loop-further.invariant.above j l
  | inr e ↦ (
      let at = e.0 in
      let from = c.loop-further.invariant.from in
      let inside = c.loop-further.invariant.inside in inr (omega (arith, at, from), omega (arith, at, inside)))
]
