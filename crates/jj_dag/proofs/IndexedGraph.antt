-- The collected nodes, once the greatest were taken first.
use Rattle.std.proofs.Common.{◌≡◌, ℕ, true, List, [], map, length, Option, None, Some, sym, ◌∙◌}
use Rattle.std.specs.Global.{Global}
use Rattle.std.specs.List.{filter_map}
use Rattle.std.specs.declared.cmp.Ordering.{Ordering}
use Rattle.std.specs.declared.vec.Vec.{Vec}
use Rattle.std.proofs.lemmas.List.{length-map}
use Rattle.jj_dag.specs.declared.greatest_order.IndexedGraph.{IndexedGraph}
use Rattle.jj_dag.specs.Collecting.{IsCollecting, IsFilled, neighbor_indices}
use Rattle.jj_dag.specs.FallibleGraphs.{FallibleGraph, ok_graph}
use Rattle.jj_dag.specs.Graph.{ReachedFrom, ReachesCycle}
use Rattle.jj_dag.specs.GreatestOrder.{IsGreatestOrder}
use Rattle.jj_dag.specs.ReadyNodes.{TakesGreatestFirst}
use Rattle.jj_dag.specs.Walk.{AreNodes, GraphModel}
use Rattle.jj_dag.proofs.GreatestOrder.{cycle_is, map_twice, order_is, index_reached}

module _ {T ID E : Type 0} (w : GraphModel T ID) (items : FallibleGraph E) (cmp : T → T → Ordering) (find : ID → Option ℕ) (found : IndexedGraph T ID) (filled : IsFilled find found) (starts : List ℕ)
    (sound_graph : (a : ℕ) → w.graph a ≡ ok_graph items a) (closed : (a : ℕ) → w.is_node a ≡ true → AreNodes w (w.graph a)) (nodes : AreNodes w starts)
    (collected : IsCollecting w items starts find [] filled.visited (map (λ v. v.items) found.neighbor_ids.items)) (r : Vec T Global × Option T)
    (taken : TakesGreatestFirst cmp found.nodes.items (neighbor_indices find found) r) where
  abbrev ids : List (List ID)
  ids = map (λ v. v.items) found.neighbor_ids.items

  indices : neighbor_indices find found ≡ map (λ is. filter_map find is) ids
  indices = sym (map_twice (λ is. filter_map find is) (λ v. v.items) found.neighbor_ids.items)

  sizes : length ids ≡ length filled.visited
  sizes = length-map found.neighbor_ids.items (λ v. v.items) ∙ filled.ids

  pub whole_order : r.1 ≡ None → IsGreatestOrder cmp w starts r.0.items
  whole_order none =
      order_is w items cmp starts find filled.visited ids (neighbor_indices find found) sound_graph closed nodes collected sizes indices filled.indices taken.0
      (rw filled.nodes at taken.2) r.0.items (rw filled.nodes at taken.1) (rw (none, filled.nodes) at taken.3)

  pub beside_cycle : (x : T) → r.1 ≡ Some x → ReachedFrom w.graph starts (w.node x) × ReachesCycle w.graph starts
  beside_cycle x some =
      let left = rw (some, filled.nodes) at taken.3 in (
        index_reached w items cmp starts find filled.visited ids (neighbor_indices find found) sound_graph closed nodes collected sizes indices filled.indices left.0 x left.2 left.1,
        cycle_is w items cmp starts find filled.visited ids (neighbor_indices find found) sound_graph closed nodes collected sizes indices filled.indices taken.0 left.0 left.1 left.3 left.4,
      )
