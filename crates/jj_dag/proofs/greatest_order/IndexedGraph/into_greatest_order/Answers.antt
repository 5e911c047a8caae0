use Rattle.std.proofs.Common.{◌≡◌, map, length, sym, ◌∙◌, ap, Some, arith}
use Rattle.std.specs.List.{filter_map}
use Rattle.std.proofs.lemmas.List.{length-map}
use Rattle.jj_dag.specs.Collecting.{index_in, neighbor_indices}
use Rattle.jj_dag.specs.PackedLists.{lists_of}
use Rattle.jj_dag.proofs.GreatestOrder.{linked_within, map_twice, slots_present}
use Rattle.jj_dag.proofs.greatest_order.IndexedGraph.into_greatest_order.Goals as goal

pub link-requires : goal.link-requires
link-requires g c = λ i k found. rw (c.deref.ensures.value, c.requires.ids) (c.requires.indices i k found)

pub take_greatest_first-requires-clause-present : goal.take_greatest_first-requires-clause-present
take_greatest_first-requires-clause-present g c = rw c.requires.nodes (slots_present c.requires.visited)

pub take_greatest_first-requires-clause-lists : goal.take_greatest_first-requires-clause-lists
take_greatest_first-requires-clause-lists g c =
    let sizes = ap length c.in_ok-targets.ensures.targets in
    let m = length-map c.deref.result.now (λ v. filter_map (index_in g.ID.PartialEq.eq (g.M.NodeMap.entries c.args.index_of.now)) v.items) in
    sizes ∙ m ∙ ap length c.deref.ensures.value ∙ c.requires.ids ∙ sym (ap length c.requires.nodes ∙ length-map c.requires.visited (λ x. Some x))

pub take_greatest_first-requires-clause-counts : goal.take_greatest_first-requires-clause-counts
take_greatest_first-requires-clause-counts g c =
    c.in_ok-targets.ensures.counts ∙ ap length c.deref.ensures.value ∙ c.requires.ids ∙ sym (ap length c.requires.nodes ∙ length-map c.requires.visited (λ x. Some x))

pub take_greatest_first-requires-clause-within : goal.take_greatest_first-requires-clause-within
take_greatest_first-requires-clause-within g c =
    let find = index_in g.ID.PartialEq.eq (g.M.NodeMap.entries c.args.index_of.now) in
    let targets : lists_of c.in_ok-targets.targets ≡ map (λ is. filter_map find is) (map (λ v. v.items) c.args.self.neighbor_ids.items) =
    c.in_ok-targets.ensures.targets ∙ ap (map (λ v. filter_map find v.items)) c.deref.ensures.value ∙ sym (map_twice (λ is. filter_map find is) (λ v. v.items) c.args.self.neighbor_ids.items) in
    rw (c.requires.nodes, length-map c.requires.visited) (linked_within find (map (λ v. v.items) c.args.self.neighbor_ids.items) _ (length c.requires.visited) targets c.requires.indices)

pub take_greatest_first-requires-clause-indegrees : goal.take_greatest_first-requires-clause-indegrees
take_greatest_first-requires-clause-indegrees g c =
    let nodes : length c.args.self.nodes.items ≡ length c.requires.visited = ap length c.requires.nodes ∙ length-map c.requires.visited (λ x. Some x) in
    let ids : length c.deref.result.now ≡ length c.requires.visited = ap length c.deref.ensures.value ∙ c.requires.ids in
    λ k lt. c.in_ok-targets.ensures.indegrees k (omega arith)

pub returns : goal.returns
returns g c =
    let find = index_in g.ID.PartialEq.eq (g.M.NodeMap.entries c.args.index_of.now) in
    let targets : lists_of c.in_ok-targets.targets ≡ neighbor_indices find c.args.self =
    c.in_ok-targets.ensures.targets ∙ ap (map (λ v. filter_map find v.items)) c.deref.ensures.value in
    rw targets at c.take_greatest_first.ensures
