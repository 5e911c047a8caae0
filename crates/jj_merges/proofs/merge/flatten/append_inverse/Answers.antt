use Rattle.std.proofs.Common.{◌∙◌, ◌++◌, ◌∷◌, ap, arith, rules, length, sym}
use Rattle.jj_merges.specs.Flatten.{inverse_terms}
use Rattle.jj_merges.specs.Terms.{items}
use Rattle.jj_merges.proofs.FlattenLaws.{inverse_more}
use Rattle.jj_merges.proofs.merge.flatten.append_inverse.Goals as goal

pub unreachable-requires : goal.unreachable-requires
unreachable-requires g c =
    omega (arith, c.as_slice-len.ensures.odd, ap length c.into_iter-rest.ensures.into_iter_gives.0, ap length c.in_default.ensures.steps.0)

pub loop-removed-init : goal.loop-removed-init
loop-removed-init g c =
    let whole = sym c.into_iter-rest.ensures.into_iter_gives.0 ∙ c.in-Some.ensures.steps in (
      c.requires,
      omega (arith, c.as_slice-len.ensures.odd, ap length whole),
      ap (λ xs. items c.args.terms.now ++ inverse_terms xs) (sym whole),
    )

pub loop-removed-smaller : goal.loop-removed-smaller
loop-removed-smaller g c = omega (arith, ap length c.in-Some-next.ensures.steps, ap length c.in-Some-next-2.ensures.steps)

pub loop-removed-preserved : goal.loop-removed-preserved
loop-removed-preserved g c =
    let pushed = c.in_ok-push_pair-in-Some-next-2.ensures in
    let rest = c.next-in-Some-next.new.self in
    let taken = c.in-Some-next.ensures.steps ∙ ap (λ xs. c.in-Some-next.removed ∷ xs) c.in-Some-next-2.ensures.steps in (
      pushed.inline_has_one,
      omega (arith, c.loop-removed.invariant.1, ap length taken),
      inverse_more c.loop-removed.rest rest (items c.loop-removed.terms) (items c.push_pair.new.self) _ c.in-Some-next.removed c.in-Some-next-2.added c.in-Some.first taken pushed.ok
          c.loop-removed.invariant.2,
    )

pub push-requires : goal.push-requires
push-requires g c = (search rules, c.loop-removed.invariant.0)

pub returns-clause-ok : goal.returns-clause-ok
returns-clause-ok g c =
    let now = rw c.in_default-next.ensures.steps.0 at c.loop-removed.invariant.2 in
    rw (← now) c.push.ensures.ok

pub returns-clause-odd : goal.returns-clause-odd
returns-clause-odd g c = c.as_slice-len.ensures.odd
