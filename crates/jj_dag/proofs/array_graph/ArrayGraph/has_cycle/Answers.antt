use Rattle.std.proofs.Common.{rules}
use Rattle.jj_dag.specs.ArrayGraphs.{graph_of}
use Rattle.jj_dag.specs.Graph.{IsAcyclicFrom}
use Rattle.jj_dag.proofs.ArrayGraphs.{none_at_targets}
use Rattle.jj_dag.proofs.array_graph.ArrayGraph.has_cycle.Goals as goal

pub returns-in-None : goal.returns-in-None
returns-in-None c =
    let graph = graph_of c.args.self.now in
    let acyclic : IsAcyclicFrom graph c.all_neighbors.result.now = search rules in
    none_at_targets graph c.all_neighbors.result.now c.all_neighbors.ensures acyclic
