use Rattle.std.proofs.Common.{ℕ, arith, below_more}
use Rattle.std.proofs.lemmas.List.{length-map}
use Rattle.jj_strings.proofs.str_util.caseless_search.contains_at_any_offset.Goals as goal

pub returns : goal.returns
returns c = ((λ e. cc), (λ w. absurd (c.loop-at.invariant w.0 (omega (arith, w.1.fits, length-map {A = ℕ} {B = ℕ})) w.1)))

pub loop-at-preserved : goal.loop-at-preserved
loop-at-preserved c = below_more _ _ c.loop-at.invariant (λ o. let e = c.if-occurs_at.ensures.1 o in cc)
