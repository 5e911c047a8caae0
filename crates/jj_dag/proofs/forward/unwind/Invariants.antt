use Rattle.std.proofs.Common.{◌+◌, ◌-◌, ◌*◌, ◌^◌, length}
use Rattle.std.specs.Iterator.{IsFiniteIterable}
use Rattle.std.specs.Set.{is_member}
use Rattle.jj_dag.specs.ClosureGraph.{CallsLead, graph_of_items, IsWalkable}
use Rattle.jj_dag.specs.Stops.{FromStack}
use Rattle.jj_dag.proofs.Unwinding.{IsUnwinding, from_top}
use Rattle.jj_dag.proofs.Walking.{numbers}
use Rattle.jj_dag.proofs.forward.unwind.Given as goal

abbrev pub invariant-loop-node : goal.invariant-loop-node
invariant-loop-node g l =
    let graph = graph_of_items g.ID.PartialEq.eq g.F.Fn g.N.FnMut g.NI.IntoIterator g.NI.IntoIter.Iterator l.id_fn in
    record {
      can : IsWalkable g.F.Fn g.N.FnMut (IsFiniteIterable g.NI.IntoIterator.into_iter_gives g.NI.IntoIter.Iterator.can_next g.NI.IntoIter.Iterator.remaining) l.id_fn l.neighbors_fn;
      calls : CallsLead g.N.FnMut l.initial.neighbors_fn l.neighbors_fn;
      walking : FromStack (graph l.initial.neighbors_fn) l.initial.stack.items (λ walk nodes.
          (graph l.neighbors_fn).implements walk
          × IsUnwinding walk nodes (is_member g.ID.PartialEq.eq (g.V.NodeSet.keys l.visiting)) (is_member g.ID.PartialEq.eq (g.V.NodeSet.keys l.emitted)) (from_top walk l.stack.items) (numbers walk l.order.items));
    }

abbrev pub decreases-loop-node : goal.decreases-loop-node
decreases-loop-node g l = (2 ^ 65 - (length (g.V.NodeSet.keys l.visiting) + length l.order.items)) * 2 ^ 64 + length l.stack.items
