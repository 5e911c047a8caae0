use Rattle.std.proofs.Common.{map}
use Rattle.jj_dag.specs.Collecting.{IsCollecting, IsFilled, index_in}
use Rattle.jj_dag.specs.Expanding.{StillImplements, InModels, whole}
use Rattle.jj_dag.proofs.Walking.{left}
use Rattle.jj_dag.proofs.closures.Closures.collect.Given as goal

abbrev pub invariant-loop-node : goal.invariant-loop-node
invariant-loop-node g l = record {
  graph : StillImplements g.ID.PartialEq.eq g.F.Fn g.N.FnMut g.NI.IntoIterator g.NI.IntoIter.Iterator l.initial.self l.self;
  found : (filled : IsFilled (index_in g.ID.PartialEq.eq (g.M.NodeMap.entries l.index_of)) l.found)
      × InModels g.ID.PartialEq.eq g.F.Fn g.N.FnMut g.NI.IntoIterator g.NI.IntoIter.Iterator l.initial.self l.fn.start.items (λ walk nodes.
      IsCollecting walk (whole walk) nodes (index_in g.ID.PartialEq.eq (g.M.NodeMap.entries l.index_of)) l.stack.items filled.visited (map (λ v. v.items) l.found.neighbor_ids.items));
}

abbrev pub decreases-loop-node : goal.decreases-loop-node
decreases-loop-node g l = left l.stack.items l.found.nodes.items
