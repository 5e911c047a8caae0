-- The closest candidates so far and those that are left.
use Rattle.std.proofs.Common.{◌≡◌, ◌++◌}
use Rattle.jj_dag.specs.NodeStates.{state_at, closest_of}
use Rattle.jj_dag.proofs.closest_common.closest.Given as goal

abbrev pub invariant-loop-id : goal.invariant-loop-id
invariant-loop-id g l = record {
  closest : l.closest.items ++ closest_of (state_at g.ID.PartialEq.eq (g.M.NodeMap.entries l.known)) l.id-iterator
      ≡ closest_of (state_at g.ID.PartialEq.eq (g.M.NodeMap.entries l.known)) l.initial.id-iterator;
}
