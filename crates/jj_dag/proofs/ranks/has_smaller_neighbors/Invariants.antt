-- The neighbors of the nodes so far are smaller.
use Rattle.std.proofs.Common.{ℕ, ◌<◌}
use Rattle.jj_dag.specs.ArrayGraphs.{graph_of}
use Rattle.jj_dag.specs.Graph.{HasEdge}
use Rattle.jj_dag.proofs.ranks.has_smaller_neighbors.Given as goal

abbrev pub invariant-loop-node : goal.invariant-loop-node
invariant-loop-node l = (a b : ℕ) → a < l.node → HasEdge (graph_of l.graph) a b → b < a
