use Rattle.std.proofs.Common.{ap, arith, rules, length}
use Rattle.std.proofs.lemmas.List.{length-map}
use Rattle.jj_merges.proofs.StorageLaws.{is_merge_storage}
use Rattle.jj_merges.proofs.merge.termwise.unzip_terms.Goals as goal

pub push_unzipped-requires : goal.push_unzipped-requires
push_unzipped-requires g c =
    (search rules, (search rules, ((c.in_ok-firsts.ensures.0, c.in_ok-firsts.ensures.1), (c.in_ok-seconds.ensures.0, c.in_ok-seconds.ensures.1))))

pub invariant_of-result : goal.invariant_of-result
invariant_of-result g c =
    let parts = c.in_ok-push_unzipped.ensures in
    is_merge_storage c.push_unzipped.new.firsts parts.inline_has_one.0 (omega (arith, ap length parts.firsts, length-map c.args.pairs.now (λ p. p.0), c.requires))

pub invariant_of-result-2 : goal.invariant_of-result-2
invariant_of-result-2 g c =
    let parts = c.in_ok-push_unzipped.ensures in
    is_merge_storage c.push_unzipped.new.seconds parts.inline_has_one.1 (omega (arith, ap length parts.seconds, length-map c.args.pairs.now (λ p. p.1), c.requires))

pub returns-clause-firsts : goal.returns-clause-firsts
returns-clause-firsts g c = c.in_ok-push_unzipped.ensures.firsts

pub returns-clause-seconds : goal.returns-clause-seconds
returns-clause-seconds g c = c.in_ok-push_unzipped.ensures.seconds
