use Rattle.std.proofs.Common.{◌≡◌, ℕ, ◌<◌, map, length, get_or, sym, ◌∙◌, Some, None, is_some}
use Rattle.std.specs.List.{Contains, filter, filter_map}
use Rattle.std.specs.Option.{MatchOption}
use Rattle.std.proofs.lemmas.List.{length-map}
use Rattle.jj_dag.specs.Graph.{ReachedFrom, ReachesCycle}
use Rattle.jj_walks.specs.Chunks.{IsChunkOfMany, IsChunkOfAnyGraph}
use Rattle.jj_dag.specs.Expanding.{whole}
use Rattle.jj_dag.specs.ReadyNodes.{index_graph, IsStuck}
use Rattle.jj_walks.proofs.Chunks.{walk_inner, inner_items, inner_ids, explored, explored_nodes, inner_ok_graph, inner_nodes_closed, inner_collected, inner_linked, inner_reached, inner_cycle, many_chunk, many_stretch}
use Rattle.jj_dag.specs.Collecting.{index_in, neighbor_indices}
use Rattle.jj_dag.proofs.GreatestOrder.{map_twice, order_is, cycle_is, index_reached}
use Rattle.jj_walks.proofs.look_ahead.take_chunk.Goals as goal

pub returns : goal.returns
returns g c = record {
  graph = c.explore.ensures.graph;
  failed = tt;
  chunk =
      let p = c.in_ok-found.ensures.explored in
      let visited = p.0.visited in
      let q = c.in_ok-nodes.ensures in
      let find = index_in g.ID.PartialEq.eq c.explore.new.index_of.entries in
      let ids = map (λ v. v.items) c.in_ok-found.found.neighbor_ids.items in
      let ts = neighbor_indices find c.in_ok-found.found in
      let indices : ts ≡ map (λ is. filter_map find is) ids = sym (map_twice (λ is. filter_map find is) (λ v. v.items) c.in_ok-found.found.neighbor_ids.items) in
      let sizes : length ids ≡ length visited = length-map c.in_ok-found.found.neighbor_ids.items (λ v. v.items) ∙ p.0.ids in
      let left = c.in_ok-found.left.items in
      let vs = c.in_ok-nodes.nodes.items in
      λ walk implemented nodes.
      let items = whole walk in
      let starts = map walk.node c.args.start.items in
      let known = p.3 walk implemented nodes in
      let inner_walk = walk_inner walk items starts find left visited ids known implemented.closed nodes in
      let items_inside = inner_items walk items starts find left visited ids known implemented.closed nodes in
      let ids_inside = inner_ids walk items starts find left visited ids known implemented.closed nodes in
      let seen = explored walk items starts find left visited ids known implemented.closed nodes in
      let sound = inner_ok_graph walk items starts find left visited ids known implemented.closed nodes in
      let closed = inner_nodes_closed walk items starts find left visited ids known implemented.closed nodes in
      let seen_nodes = explored_nodes walk items starts find left visited ids known implemented.closed nodes in
      let collected = inner_collected walk items starts find left visited ids known implemented.closed nodes in
      let sizes_inside : length ids_inside ≡ length visited = length-map ids (λ is. filter (λ i. is_some (find i)) is) ∙ sizes in
      let linked_inside = inner_linked walk items starts find left visited ids known implemented.closed nodes ts indices in
      elim c.in_ok-nodes.stuck as (λ o. MatchOption o ((k : ℕ) → k < length c.in_ok-found.found.nodes.items → Contains q.0 k)
      (λ x. (k : ℕ) × (k < length c.in_ok-found.found.nodes.items) × (get_or c.in_ok-found.found.nodes.items k None ≡ Some x) × (Contains q.0 k → ⊥) × IsStuck (index_graph ts) (λ k. k < length c.in_ok-found.found.nodes.items) q.0)
      → MatchOption o (IsChunkOfMany walk.graph starts (map walk.node vs) (map walk.node left) × IsChunkOfAnyGraph walk.graph starts (map walk.node vs) (map walk.node left)) (λ x. ReachedFrom walk.graph starts (walk.node x) × ReachesCycle walk.graph starts)) [
        | None ↦ λ all.
            let o = order_is inner_walk items_inside g.T.Ord.cmp seen find visited ids_inside ts sound closed seen_nodes collected sizes_inside linked_inside p.0.indices q.0 (rw p.0.nodes at q.2) vs (rw p.0.nodes at q.1) (rw p.0.nodes at all) in
            let begun = many_chunk walk items starts find left visited ids known implemented.closed nodes p.2 p.1 (map walk.node vs) o.child_first in
            let stretch = many_stretch walk items starts find left visited ids known implemented.closed nodes p.2 p.1 (map walk.node vs) o.child_first in
            (begun, stretch)
        | Some x ↦ λ stuck.
            let s = rw p.0.nodes at stuck in (
              inner_reached walk items starts find left visited ids known implemented.closed nodes _ (index_reached inner_walk items_inside g.T.Ord.cmp seen find visited ids_inside ts sound closed seen_nodes collected sizes_inside linked_inside p.0.indices s.0 x s.2 s.1),
              inner_cycle walk items starts find left visited ids known implemented.closed nodes (cycle_is inner_walk items_inside g.T.Ord.cmp seen find visited ids_inside ts sound closed seen_nodes collected sizes_inside linked_inside p.0.indices q.0 s.0 s.1 s.3 s.4),
            )
      ] q.3;
}
