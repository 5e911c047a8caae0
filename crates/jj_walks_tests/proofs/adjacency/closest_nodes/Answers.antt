use Rattle.std.proofs.Common.{IfOk, List, ℕ, subst}
use Rattle.jj_dag.specs.ArrayGraphs.{graph_of}
use Rattle.jj_dag.specs.CommonNodes.{AreClosestCommon, HasNoCommonCycle}
use Rattle.jj_walks_tests.proofs.adjacency.closest_nodes.Goals as goal

pub returns : goal.returns
returns c =
    let set1 = c.args.set1.now in
    let set2 = c.args.set2.now in
    subst (λ (lists : List (List ℕ)). IfOk c.closest_common_nodes.result (λ found. HasNoCommonCycle (graph_of lists) set1 set2 → AreClosestCommon (graph_of lists) set1 set2 found.items)) c.in_ok-graph.ensures c.closest_common_nodes.ensures.closest
