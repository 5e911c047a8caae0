use Rattle.std.proofs.Common.{rules, ◌≡◌, ◌∙◌, ap, arith, length, true}
use Rattle.jj_core_c.specs.FlattenResults.{term_count}
use Rattle.jj_core_c.specs.Pieces.{are_ends}
use Rattle.jj_core_c.proofs.Flattened.{length_indexed}
use Rattle.jj_core_c.proofs.flatten.flatten.Goals as goal

pub write_indices-requires : goal.write_indices-requires
write_indices-requires c =
    let valid : are_ends (term_count c.args.ends.now) c.args.ends.now ≡ true = search rules in
    let len = ap length (c.as_slice.ensures.terms ∙ c.in_ok-merge.ensures.0) ∙ length_indexed c.args.ends.now valid in
    omega (arith, len, c.term_count-len.ensures, c.if-order-len.false)
