use Rattle.jj_dag.specs.ArrayGraphs.{graph_of}
use Rattle.jj_dag.proofs.ReachableNodes.{distinct_rising, reached_permuted}
use Rattle.jj_dag.proofs.array_graph.ArrayGraph.reachable.Goals as goal

pub returns-clause-reached : goal.returns-clause-reached
returns-clause-reached c =
    reached_permuted (graph_of c.args.self.now) c.args.starts.now c.in_ok-found.found.items c.sort_unstable.new.self.items c.sort_unstable.ensures.permutation c.in_ok-found.ensures.reached

pub returns-clause-ascending : goal.returns-clause-ascending
returns-clause-ascending c =
    distinct_rising c.in_ok-found.found.items c.sort_unstable.new.self.items c.sort_unstable.ensures.permutation c.sort_unstable.ensures.sorted c.in_ok-found.ensures.once
