use Rattle.std.proofs.Common.{map}
use Rattle.std.specs.BinaryHeap.{heap_items}
use Rattle.jj_dag.specs.Collecting.{IsFilled, index_in}
use Rattle.jj_dag.specs.Expanding.{StillImplements, InModels, whole}
use Rattle.jj_walks.specs.LookingAhead.{IsLooking}
use Rattle.jj_dag.proofs.Walking.{left}
use Rattle.jj_walks.proofs.look_ahead.explore.Given as goal

abbrev pub invariant-loop-node : goal.invariant-loop-node
invariant-loop-node g l = record {
  graph : StillImplements g.ID.PartialEq.eq g.F.Fn g.N.FnMut g.NI.IntoIterator g.NI.IntoIter.Iterator l.initial.closures l.closures;
  found : (filled : IsFilled (index_in g.ID.PartialEq.eq l.index_of.entries) l.found)
      × InModels g.ID.PartialEq.eq g.F.Fn g.N.FnMut g.NI.IntoIterator g.NI.IntoIter.Iterator l.initial.closures l.fn.start.items (λ walk nodes.
      IsLooking walk (whole walk) nodes (index_in g.ID.PartialEq.eq l.index_of.entries) l.root_met (heap_items l.frontier) filled.visited (map (λ v. v.items) l.found.neighbor_ids.items));
}

abbrev pub decreases-loop-node : goal.decreases-loop-node
decreases-loop-node g l = left (heap_items l.frontier) l.found.nodes.items
