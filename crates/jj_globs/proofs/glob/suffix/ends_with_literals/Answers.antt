use Rattle.std.proofs.Common.{arith}
use Rattle.std.proofs.lemmas.Grind.{common_steps}
use Rattle.jj_globs.proofs.glob.suffix.ends_with_literals.Goals as goal

pub returns-in_default-split_last : goal.returns-in_default-split_last
returns-in_default-split_last c = grind (arith, common_steps)

pub returns-then-not-same_byte : goal.returns-then-not-same_byte
returns-then-not-same_byte c = grind (arith, common_steps)

pub loop-own-preserved : goal.loop-own-preserved
loop-own-preserved c = grind (arith, common_steps)

pub returns-in_default : goal.returns-in_default
returns-in_default c = grind (arith, common_steps)

pub returns-in_default-2 : goal.returns-in_default-2
returns-in_default-2 c = grind (arith, common_steps)
