use Rattle.std.proofs.Common.{◌+◌, ◌-◌, ◌^◌, ◌<◌, ℕ, IfOk}
use Rattle.std.specs.BinaryHeap.{heap_items, heap_len}
use Rattle.std.specs.Iterator.{IsFiniteIterable}
use Rattle.jj_dag.specs.declared.closest_common.Sides.{Sides}
use Rattle.jj_dag.specs.ClosureGraph.{CallsLead, graph_of_lists, IsWalkable}
use Rattle.jj_dag.specs.CommonSearch.{FromStates}
use Rattle.jj_dag.specs.NodeStates.{state_at, sides_met}
use Rattle.jj_dag.proofs.ClosestCommon.{HoldsMarks}
use Rattle.jj_dag.proofs.closest_common.search.Given as goal

abbrev pub invariant-loop-node : goal.invariant-loop-node
invariant-loop-node g l =
    let graph = graph_of_lists g.ID.PartialEq.eq g.F.Fn g.N.FnMut g.NI.IntoIterator g.NI.IntoIter.Iterator l.id_fn in
    record {
      can : IsWalkable g.F.Fn g.N.FnMut (λ r. IfOk r (IsFiniteIterable g.NI.IntoIterator.into_iter_gives g.NI.IntoIter.Iterator.can_next g.NI.IntoIter.Iterator.remaining)) l.id_fn l.neighbors_fn;
      calls : CallsLead g.N.FnMut l.initial.neighbors_fn l.neighbors_fn;
      small : sides_met (g.M.NodeMap.entries l.known) < 2 ^ 64;
      walking : FromStates (graph l.initial.neighbors_fn) (state_at g.ID.PartialEq.eq (g.M.NodeMap.entries l.initial.known)) (heap_items l.initial.pending)
          (λ walk set1 set2. (graph l.neighbors_fn).implements walk
          × ((m : ℕ → Sides) × HoldsMarks walk set1 set2 m (heap_items l.pending) l.common.entries l.root_met (state_at g.ID.PartialEq.eq (g.M.NodeMap.entries l.known))));
    }

abbrev pub decreases-loop-node : goal.decreases-loop-node
decreases-loop-node g l = (2 ^ 64 - sides_met (g.M.NodeMap.entries l.known)) + heap_len l.pending
