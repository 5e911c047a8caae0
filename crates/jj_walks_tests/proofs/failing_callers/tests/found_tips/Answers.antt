use Rattle.std.proofs.Common.{rules, of_calls}
use denote.Param.Always.{mut_total}
use Rattle.jj_dag.proofs.Walkable.{walkable_by}
use Rattle.jj_walks_tests.proofs.failing_callers.tests.found_tips.Goals as goal

pub heads-requires-clause-graph : goal.heads-requires-clause-graph
heads-requires-clause-graph c = walkable_by (search rules) (mut_total _ _ (λ s a. search rules)) (λ a r f h. (first_of (search rules, search (rules, of_calls, h)), search (rules, of_calls, h)))
