use Rattle.std.proofs.Common.{◌≡◌, ◌+◌, ◌^◌, ◌≤◌, ◌<◌, []}
use Rattle.std.specs.BinaryHeap.{heap_items, heap_len}
use Rattle.std.specs.Bool.{MatchBool}
use Rattle.std.specs.List.{Contains}
use Rattle.jj_dag.specs.ClosureGraph.{ReturnsId}
use Rattle.jj_dag.specs.NodeStates.{RelaxesNodes, state_at, sides_met}
use Rattle.jj_dag.proofs.closest_common.relax_all.Given as goal

abbrev pub invariant-loop-node : goal.invariant-loop-node
invariant-loop-node g l = record {
  can : (goal.iterator-loop-node g).can_next l.node-iterator;
  finite : (goal.iterator-loop-node g).is_finite l.node-iterator;
  states : RelaxesNodes g.ID.PartialEq.eq (ReturnsId g.F.Fn l.id_fn) l.fn.sides (state_at g.ID.PartialEq.eq (g.M.NodeMap.entries l.initial.known)) (heap_items l.initial.pending) l.yielded
      (state_at g.ID.PartialEq.eq (g.M.NodeMap.entries l.known)) (heap_items l.pending);
  balance : sides_met (g.M.NodeMap.entries l.initial.known) + heap_len l.pending ≤ sides_met (g.M.NodeMap.entries l.known) + heap_len l.initial.pending;
  small : sides_met (g.M.NodeMap.entries l.initial.known) < 2 ^ 64 → sides_met (g.M.NodeMap.entries l.known) < 2 ^ 64;
  some : MatchBool l.empty (l.yielded ≡ []) ((x : g.row.T.Denot) × Contains l.yielded x);
}
