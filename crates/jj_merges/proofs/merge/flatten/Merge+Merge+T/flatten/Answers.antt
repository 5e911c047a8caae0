use Rattle.std.proofs.Common.{◌∙◌, ap, arith, rules, length, sym}
use Rattle.jj_merges.proofs.merge.flatten.Merge+Merge+T.flatten.Goals as goal

pub flatten_remaining-requires : goal.flatten_remaining-requires
flatten_remaining-requires g c =
    let whole = sym c.into_iter-merges.ensures.into_iter_gives.0 ∙ c.in-Some.ensures.steps in
    (search rules, omega (arith, c.as_slice-len.ensures.odd, ap length whole))

pub unreachable-requires : goal.unreachable-requires
unreachable-requires g c =
    omega (arith, c.as_slice-len.ensures.odd, ap length c.into_iter-merges.ensures.into_iter_gives.0, ap length c.in-None.ensures.steps.0)

pub returns-clause-terms : goal.returns-clause-terms
returns-clause-terms g c =
    let whole = sym c.into_iter-merges.ensures.into_iter_gives.0 ∙ c.in-Some.ensures.steps in
    rw whole c.flatten_remaining.ensures.terms

pub returns-clause-counts : goal.returns-clause-counts
returns-clause-counts g c =
    let whole = sym c.into_iter-merges.ensures.into_iter_gives.0 ∙ c.in-Some.ensures.steps in
    rw whole c.flatten_remaining.ensures.counts
