use Rattle.std.proofs.Common.{arith, rules, subst, sym}
use Rattle.jj_merges.specs.Terms.{InlineHasOne}
use Rattle.jj_merges.proofs.merge.storage.Terms.spill.Goals as goal

pub into_single-requires : goal.into_single-requires
into_single-requires g c = (search rules, subst InlineHasOne (sym c.in-Inline-replace.ensures.value) c.requires)

pub unreachable-requires : goal.unreachable-requires
unreachable-requires g c = omega (arith, c.in-Err.ensures.full, c.in_ok-reserve.ensures.ok, c.in_ok-reserve.ensures.len, c.new-terms.ensures.len)
