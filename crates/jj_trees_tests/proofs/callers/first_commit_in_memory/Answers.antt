use Rattle.std.proofs.lemmas.Result.{IfErr-weaker}
use Rattle.jj_trees_tests.proofs.MemoryFailures.{memory_failure}
use Rattle.jj_trees_tests.proofs.callers.first_commit_in_memory.Goals as goal

pub returns-clause-error : goal.returns-clause-error
returns-clause-error c = IfErr-weaker c.first_commit.result _ _ memory_failure c.first_commit.ensures.error
