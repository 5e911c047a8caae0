use Rattle.std.proofs.Common.{◌∙◌, ap, length, sym}
use Rattle.jj_program.proofs.SetCode.{code_of_only}
use Rattle.jj_program.proofs.file_set.matcher.SetMatcher.new.Goals as goal

pub invariant_of-result : goal.invariant_of-result
invariant_of-result c = record {
  decided = (code_of_only c.into_ops.result.items c.in_ok-code.code.items (ap length c.into_ops.ensures.sets ∙ c.requires) c.into_ops.ensures.whole c.in_ok-code.ensures).decided;
}

pub returns : goal.returns
returns c =
    sym c.into_ops.ensures.sets
    ∙ (code_of_only c.into_ops.result.items c.in_ok-code.code.items (ap length c.into_ops.ensures.sets ∙ c.requires) c.into_ops.ensures.whole c.in_ok-code.ensures).made
