-- The list keeps the open nodes.
use Rattle.std.proofs.Common.{◌≡◌, ℕ, true, eqb, length}
use Rattle.std.specs.List.{Contains}
use Rattle.jj_dag.specs.Frontiers.{is_open}
use Rattle.jj_dag.specs.NodeStates.{state_at}
use Rattle.jj_dag.specs.NumberSets.{entries_of}
use Rattle.jj_dag.proofs.frontier.has_open.Given as goal

abbrev pub invariant-loop-node : goal.invariant-loop-node
invariant-loop-node l = (n : ℕ) → Contains l.initial.nodes.items n → is_open (state_at eqb (entries_of l.known) n) l.side ≡ true → Contains l.nodes.items n

abbrev pub decreases-loop-node : goal.decreases-loop-node
decreases-loop-node l = length l.nodes.items
