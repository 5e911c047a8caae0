use Rattle.std.proofs.Common.{IfOk, List, ℕ, subst}
use Rattle.jj_dag.specs.ArrayGraphs.{graph_of}
use Rattle.jj_dag.specs.Graph.{AreMaximalElements, IsAcyclicFrom}
use Rattle.jj_walks_tests.proofs.adjacency.head_nodes.Goals as goal

pub returns : goal.returns
returns c =
    let nodes = c.args.nodes.now in
    subst (λ (lists : List (List ℕ)). IfOk c.heads.result (λ heads. IsAcyclicFrom (graph_of lists) nodes → AreMaximalElements (graph_of lists) nodes heads.items)) c.in_ok-graph.ensures c.heads.ensures.maximal
