use Rattle.std.proofs.Common.{◌≡◌, List, Ok, map}
use Rattle.jj_dag.specs.ClosureGraph.{ReturnsId}
use Rattle.std.specs.List.{Contains}
use Rattle.std.specs.Set.{is_member}
use Rattle.jj_dag.specs.HeadsSearch.{IsStarted, ReturnsNodeIds}
use Rattle.jj_dag.specs.Walk.{AreNodes, GraphModel, IsEqualityOfNodes}
use Rattle.jj_dag.proofs.Walking.{numbers}
use Rattle.jj_dag.proofs.maximal.add_starts.Given as goal

abbrev pub invariant-loop-item : goal.invariant-loop-item
invariant-loop-item g l = record {
  can : (goal.iterator-loop-item g).can_next l.item-iterator;
  finite : (goal.iterator-loop-item g).is_finite l.item-iterator;
  sound : (xs : List g.row.T.Denot) × (l.yielded ≡ map (λ x. Ok x) xs) × ((b : g.row.T.Denot) → Contains l.queue.items b → Contains xs b)
      × ((walk : GraphModel g.row.T.Denot g.row.ID.Denot) → ReturnsNodeIds walk g.ID.PartialEq.eq (ReturnsId g.F.Fn l.id_fn) → IsEqualityOfNodes walk g.T.PartialEq.eq → AreNodes walk (numbers walk xs)
      → IsStarted walk (numbers walk xs) (g.H.NodeSet.keys l.heads) (is_member g.T.PartialEq.eq (g.H.NodeSet.keys l.heads)) (is_member g.ID.PartialEq.eq (g.V.NodeSet.keys l.visited)) (numbers walk l.queue.items));
}
