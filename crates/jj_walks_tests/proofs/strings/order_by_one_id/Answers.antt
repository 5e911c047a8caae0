use Rattle.std.proofs.Common.{rules, of_calls}
use Rattle.jj_dag.proofs.Walkable.{walkable_by}
use Rattle.jj_walks_tests.proofs.strings.order_by_one_id.Goals as goal

pub topo_order_forward-requires-clause-graph : goal.topo_order_forward-requires-clause-graph
topo_order_forward-requires-clause-graph c = walkable_by (search rules) (search (rules, of_calls)) (λ a r f h. (λ it b. (search rules, search rules), search (rules, of_calls, h)))
