use Rattle.std.proofs.Common.{rules, of_calls}
use Rattle.jj_dag.proofs.Walkable.{walkable_by}
use Rattle.rows_walks.proofs.lazy.ordered.Goals as goal

pub topo_order_reverse_lazy-requires-clause-graph : goal.topo_order_reverse_lazy-requires-clause-graph
topo_order_reverse_lazy-requires-clause-graph c = walkable_by (search rules) (search (rules, of_calls)) (λ a r f h. (λ it b. (search rules, search rules), search (rules, of_calls, h)))

pub all_of-requires-clause-callable : goal.all_of-requires-clause-callable
all_of-requires-clause-callable c = λ _. c.in_ok-topo_order_reverse_lazy.ensures.can_go
