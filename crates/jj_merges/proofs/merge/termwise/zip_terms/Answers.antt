use Rattle.std.proofs.Common.{ap, arith, rules, length}
use Rattle.std.proofs.lemmas.List.{length-map, nil_from_length}
use Rattle.jj_merges.specs.Terms.{items}
use Rattle.jj_merges.proofs.CallLaws.{map-moved, map-ended}
use Rattle.jj_merges.proofs.StorageLaws.{is_merge_storage}
use Rattle.jj_merges.proofs.merge.termwise.zip_terms.Goals as goal

pub loop-first-init : goal.loop-first-init
loop-first-init g c =
    let e = c.in_ok-pairs.ensures.0 in
    (c.in_ok-pairs.ensures.1, c.requires.same_len, rw e, rw e)

pub push-requires : goal.push-requires
push-requires g c = (search rules, c.loop-first.invariant.0)

pub loop-first-smaller : goal.loop-first-smaller
loop-first-smaller g c = omega (arith, ap length c.in-Some.ensures.steps)

pub loop-first-preserved : goal.loop-first-preserved
loop-first-preserved g c =
    let pushed = c.in_ok-push-in-Some-next.ensures in
    let now = c.loop-first.invariant in
    let first = c.in-Some.ensures.steps in
    let second = c.in-Some-next.ensures.steps in (
      pushed.inline_has_one,
      omega (arith, now.1, ap length first, ap length second),
      map-moved (λ p. p.0) (items c.loop-first.pairs) (items c.push.new.self) (c.in-Some.first, c.in-Some-next.second) c.loop-first.firsts c.next.new.self c.args.firsts.now pushed.ok first now.2,
      map-moved (λ p. p.1) (items c.loop-first.pairs) (items c.push.new.self) (c.in-Some.first, c.in-Some-next.second) c.loop-first.seconds c.next-in-Some.new.self c.args.seconds.now pushed.ok second now.3,
    )

pub unreachable-requires : goal.unreachable-requires
unreachable-requires g c = omega (arith, c.loop-first.invariant.1, ap length c.in-Some.ensures.steps, ap length c.in-None.ensures.steps.0)

pub returns-clause-firsts : goal.returns-clause-firsts
returns-clause-firsts g c = map-ended (λ p. p.0) (items c.loop-first.pairs) c.loop-first.firsts c.args.firsts.now c.in_default.ensures.steps.0 c.loop-first.invariant.2

pub returns-clause-seconds : goal.returns-clause-seconds
returns-clause-seconds g c =
    let now = c.loop-first.invariant in
    map-ended (λ p. p.1) (items c.loop-first.pairs) c.loop-first.seconds c.args.seconds.now
    (nil_from_length c.loop-first.seconds (omega (arith, now.1, ap length c.in_default.ensures.steps.0))) now.3

pub invariant_of-result : goal.invariant_of-result
invariant_of-result g c =
    is_merge_storage c.loop-first.pairs c.loop-first.invariant.0
    (omega (arith, ap length (returns-clause-firsts g c), length-map (items c.loop-first.pairs) (λ p. p.0), c.requires.odd))
