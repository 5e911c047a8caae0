use Rattle.std.proofs.Common.{ap, arith, rules, length}
use Rattle.jj_merges.proofs.merge.termwise.Merge+tuple2+T+U.unzip.Goals as goal

pub unzip_terms-requires : goal.unzip_terms-requires
unzip_terms-requires g c = (search rules, (search rules, omega (arith, ap length c.into_iter.ensures.into_iter_gives.0, c.as_slice-len.ensures.odd)))

pub returns-clause-firsts : goal.returns-clause-firsts
returns-clause-firsts g c = rw (← c.into_iter.ensures.into_iter_gives.0) c.unzip_terms.ensures.firsts

pub returns-clause-seconds : goal.returns-clause-seconds
returns-clause-seconds g c = rw (← c.into_iter.ensures.into_iter_gives.0) c.unzip_terms.ensures.seconds
