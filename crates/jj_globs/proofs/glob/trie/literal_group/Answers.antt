use Rattle.std.proofs.Common.{arith}
use Rattle.std.proofs.lemmas.Grind.{common_steps}
use Rattle.jj_globs.proofs.glob.trie.literal_group.Goals as goal

pub returns-in-Open-clause-group : goal.returns-in-Open-clause-group
returns-in-Open-clause-group c = grind (arith, common_steps)

pub loop-token-preserved : goal.loop-token-preserved
loop-token-preserved c = grind (arith, common_steps)
