use Rattle.std.proofs.Common.{◌≡◌, ◌+◌, ◌≤◌, List, [], Ok, length, map}
use Rattle.std.specs.Bool.{MatchBool}
use Rattle.jj_dag.specs.ClosureGraph.{ReturnsId}
use Rattle.std.specs.List.{Contains}
use Rattle.jj_dag.specs.HeadsSearch.{VisitsNeighbors}
use Rattle.jj_dag.proofs.maximal.visit_neighbors.Given as goal

abbrev pub invariant-loop-neighbor : goal.invariant-loop-neighbor
invariant-loop-neighbor g l = record {
  can : (goal.iterator-loop-neighbor g).can_next l.neighbor-iterator;
  finite : (goal.iterator-loop-neighbor g).is_finite l.neighbor-iterator;
  balance : length (g.V.NodeSet.keys l.visited) + length l.initial.queue.items ≡ length (g.V.NodeSet.keys l.initial.visited) + length l.queue.items;
  grows : length l.initial.queue.items ≤ length l.queue.items;
  sound : (ys : List g.row.T.Denot) × (l.yielded ≡ map (λ x. Ok x) ys)
      × VisitsNeighbors g.T.PartialEq.eq g.ID.PartialEq.eq (ReturnsId g.F.Fn l.id_fn) (g.H.NodeSet.keys l.initial.heads) (g.V.NodeSet.keys l.initial.visited) l.initial.queue.items ys (g.H.NodeSet.keys l.heads) (g.V.NodeSet.keys l.visited) l.queue.items
      × MatchBool l.empty (ys ≡ []) ((y : g.row.T.Denot) × Contains ys y);
}
