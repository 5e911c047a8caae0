use Rattle.std.proofs.Common.{◌∙◌, ap, arith, length}
use Rattle.std.proofs.lemmas.List.{take_rest}
use Rattle.jj_merges.specs.Merge.{adds, removes}
use Rattle.jj_merges.proofs.Sides.{adds-rest}
use Rattle.jj_merges.proofs.merge.Merge.removes.Goals as goal

pub unreachable-requires : goal.unreachable-requires
unreachable-requires g c = omega (arith, ap length c.as_slice.ensures.terms, c.as_slice.ensures.odd, c.in-empty.len_below)

pub returns : goal.returns
returns g c = ap adds (take_rest c.as_slice.result.now 1) ∙ (adds-rest c.as_slice.result.now ∙ ap removes c.as_slice.ensures.terms)
