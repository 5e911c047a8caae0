use Rattle.std.proofs.Common.{IfOk, List, ℕ, subst}
use Rattle.std.specs.Prelude.{◌↔◌}
use Rattle.std.specs.List.{Contains}
use Rattle.jj_dag.specs.ArrayGraphs.{graph_of}
use Rattle.jj_dag.specs.Graph.{ReachedFrom}
use Rattle.jj_walks_tests.proofs.adjacency.reachable_nodes.Goals as goal

pub returns : goal.returns
returns c =
    subst (λ (lists : List (List ℕ)). IfOk c.reachable.result (λ found. (node : ℕ) → Contains found.items node ↔ ReachedFrom (graph_of lists) c.args.starts.now node)) c.in_ok-graph.ensures c.reachable.ensures.reached
