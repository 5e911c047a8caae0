use Rattle.std.proofs.Common.{IfOk, List, ℕ, subst}
use Rattle.jj_dag.specs.ArrayGraphs.{graph_of}
use Rattle.jj_dag.specs.Graph.{IsGreatestTopologicalOrder, OnCycleFrom}
use Rattle.jj_dag.specs.Outcomes.{IfFails}
use Rattle.jj_walks_tests.proofs.adjacency.greatest_order.Goals as goal

pub returns-clause-order : goal.returns-clause-order
returns-clause-order c =
    subst (λ (lists : List (List ℕ)). IfOk c.greatest_order.result (λ order. IsGreatestTopologicalOrder (graph_of lists) c.args.starts.now order.items)) c.in_ok-graph.ensures c.greatest_order.ensures.order

pub returns-clause-cycle : goal.returns-clause-cycle
returns-clause-cycle c = subst (λ (lists : List (List ℕ)). IfFails c.greatest_order.result (OnCycleFrom (graph_of lists) c.args.starts.now)) c.in_ok-graph.ensures c.greatest_order.ensures.cycle
