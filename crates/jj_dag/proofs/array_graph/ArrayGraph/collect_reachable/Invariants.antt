-- The nodes found are those visited; starts and neighbors of those found are found or pending.
use Rattle.jj_dag.specs.ArrayGraphs.{graph_of}
use Rattle.jj_dag.specs.NumberSets.{keys_of}
use Rattle.jj_dag.proofs.ReachableNodes.{IsSearching}
use Rattle.jj_dag.proofs.Walking.{left}
use Rattle.jj_dag.proofs.array_graph.ArrayGraph.collect_reachable.Given as goal

abbrev pub invariant-loop-node : goal.invariant-loop-node
invariant-loop-node l = IsSearching (graph_of l.self) l.starts (keys_of l.visited) l.pending.items l.found.items

abbrev pub decreases-loop-node : goal.decreases-loop-node
decreases-loop-node l = left l.pending.items l.found.items
