use Rattle.std.proofs.Common.{rules, of_calls}
use Rattle.jj_dag.proofs.Walkable.{walkable_by}
use Rattle.rows_walks.proofs.orders.preorder.Goals as goal

pub dfs-requires-clause-graph : goal.dfs-requires-clause-graph
dfs-requires-clause-graph c = walkable_by (search rules) (search (rules, of_calls)) (λ a r f h. (λ it b. (search rules, search rules), search (rules, of_calls, h)))
