-- The search among the nodes that rank above the least start.
use Rattle.jj_dag.specs.ArrayGraphs.{graph_of}
use Rattle.jj_dag.specs.NumberSets.{keys_of}
use Rattle.jj_dag.specs.Ranks.{rank_in}
use Rattle.jj_dag.proofs.PrunedSearches.{IsPruned}
use Rattle.jj_dag.proofs.Walking.{left}
use Rattle.jj_dag.proofs.ranked_heads.ranked_heads_in.Given as goal

abbrev pub invariant-loop-node : goal.invariant-loop-node
invariant-loop-node l = IsPruned (graph_of l.graph) (rank_in l.ranks) l.least l.starts (keys_of l.heads) (keys_of l.visited) l.pending.items

abbrev pub decreases-loop-node : goal.decreases-loop-node
decreases-loop-node l = left l.pending.items (keys_of l.visited)
