use Rattle.std.proofs.Common.{rules, of_calls}
use Rattle.jj_dag.proofs.Walkable.{walkable_by}
use Rattle.jj_walks_tests.proofs.strings.heads_of_strings.Goals as goal

pub heads-requires-clause-graph : goal.heads-requires-clause-graph
heads-requires-clause-graph c = walkable_by (search rules) (search (rules, of_calls)) (λ a r f h. (λ it b. (search rules, search rules), search (rules, of_calls, h)))
