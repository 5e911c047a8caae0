use Rattle.std.proofs.Common.{subst}
use Rattle.jj_dag.specs.ArrayGraphs.{graph_of}
use Rattle.jj_dag.specs.Graph.{Graph, IsTopologicalOrder, StrictlyReaches}
use Rattle.jj_dag.proofs.Errors.{node_says}
use Rattle.jj_log.proofs.Reaching.{graph_is, order_of}
use Rattle.jj_log.proofs.ordering.order_commits.Goals as goal

pub returns-clause-error : goal.returns-clause-error
returns-clause-error c =
    let n = c.in-Node.number in
    let k = node_says _ c.in-Err.error n c.in-Node.is c.in-Err.ensures.cycle in
    subst (λ (graph : Graph). StrictlyReaches graph n n) (graph_is c.args.commits.now c.in_ok-graph.graph c.in_ok-graph.ensures) k.1

pub returns-in-Ok-clause-order : goal.returns-in-Ok-clause-order
returns-in-Ok-clause-order c =
    let commits = c.args.commits.now in
    let starts = c.in_ok-starts.starts.items in
    let k = subst (λ nodes. IsTopologicalOrder (graph_of c.in_ok-graph.graph) nodes c.in-Ok.order.items) c.deref.ensures.value c.in-Ok.ensures.order.child_first in
    order_of commits starts c.in-Ok.order.items c.in_ok-starts.ensures
    (subst (λ (graph : Graph). IsTopologicalOrder graph starts c.in-Ok.order.items) (graph_is commits c.in_ok-graph.graph c.in_ok-graph.ensures) k)
