use Rattle.std.proofs.Common.{rules, of_calls}
use Rattle.jj_dag.proofs.Walkable.{walkable_by}
use Rattle.rows_walks.proofs.orders.closest.Goals as goal

pub closest_common_nodes-requires-clause-graph : goal.closest_common_nodes-requires-clause-graph
closest_common_nodes-requires-clause-graph c = walkable_by (search rules) (search (rules, of_calls)) (λ a r f h. (first_of (search rules, search (rules, of_calls, h)), search (rules, of_calls, h)))
