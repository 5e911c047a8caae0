use Rattle.std.proofs.Common.{ap, arith, rules, length}
use Rattle.jj_merges.specs.Terms.{items}
use Rattle.jj_merges.proofs.CallLaws.{image-moved, image-ended}
use Rattle.jj_merges.proofs.merge.termwise.push_unzipped.Goals as goal

pub loop-first-init : goal.loop-first-init
loop-first-init g c = (c.requires.firsts.1, c.requires.seconds.1, rw c.requires.firsts.0, rw c.requires.seconds.0)

pub push-requires : goal.push-requires
push-requires g c = (search rules, c.loop-first.invariant.0)

pub loop-first-smaller : goal.loop-first-smaller
loop-first-smaller g c = omega (arith, ap length c.in-Some.ensures.steps)

pub loop-first-preserved : goal.loop-first-preserved
loop-first-preserved g c =
    let now = c.loop-first.invariant in
    let taken = c.in-Some.ensures.steps in (
      c.in_ok-push.ensures.inline_has_one,
      c.in_ok-push-2.ensures.inline_has_one,
      image-moved (λ p. p.0) c.loop-first.pairs c.next.new.self (c.in-Some.first, c.in-Some.second) (items c.loop-first.firsts) (items c.push.new.self) _ taken c.in_ok-push.ensures.ok now.2,
      image-moved (λ p. p.1) c.loop-first.pairs c.next.new.self (c.in-Some.first, c.in-Some.second) (items c.loop-first.seconds) (items c.push-in-Some.new.self) _ taken c.in_ok-push-2.ensures.ok now.3,
    )

pub returns-clause-firsts : goal.returns-clause-firsts
returns-clause-firsts g c =
    image-ended (λ p. p.0) c.loop-first.pairs (items c.loop-first.firsts) _ c.in_default.ensures.steps.0 c.loop-first.invariant.2

pub returns-clause-seconds : goal.returns-clause-seconds
returns-clause-seconds g c =
    image-ended (λ p. p.1) c.loop-first.pairs (items c.loop-first.seconds) _ c.in_default.ensures.steps.0 c.loop-first.invariant.3

pub returns-clause-inline_has_one : goal.returns-clause-inline_has_one
returns-clause-inline_has_one g c = (c.loop-first.invariant.0, c.loop-first.invariant.1)
