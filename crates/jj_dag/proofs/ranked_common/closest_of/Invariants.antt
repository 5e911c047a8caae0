-- The nodes so far that are not below a common one.
use Rattle.std.proofs.Common.{◌≡◌, eqb, take, not}
use Rattle.std.specs.List.{filter}
use Rattle.jj_dag.specs.NodeStates.{state_at}
use Rattle.jj_dag.specs.NumberSets.{entries_of}
use Rattle.jj_dag.proofs.ranked_common.closest_of.Given as goal

abbrev pub invariant-loop-node : goal.invariant-loop-node
invariant-loop-node l = l.closest.items ≡ filter (λ node. not (state_at eqb (entries_of l.known) node).sides.below) (take l.node-index l.common)
