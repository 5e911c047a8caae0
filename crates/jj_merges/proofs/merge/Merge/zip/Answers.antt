use Rattle.std.proofs.Common.{ap, arith, rules, length}
use Rattle.jj_merges.proofs.merge.Merge.zip.Goals as goal

pub zip_terms-requires : goal.zip_terms-requires
zip_terms-requires g c =
    let mine = ap length c.into_iter.ensures.into_iter_gives.0 in
    let other = ap length c.into_iter-2.ensures.into_iter_gives.0 in
    (search rules, (omega (arith, mine, c.as_slice-len.ensures.odd), omega (arith, mine, other, c.requires)))

pub returns-clause-firsts : goal.returns-clause-firsts
returns-clause-firsts g c = rw (← c.into_iter.ensures.into_iter_gives.0) c.zip_terms.ensures.firsts

pub returns-clause-seconds : goal.returns-clause-seconds
returns-clause-seconds g c = rw (← c.into_iter-2.ensures.into_iter_gives.0) c.zip_terms.ensures.seconds
