use Rattle.std.proofs.Common.{rules, ◌≡◌, ◌<◌, ◌++◌, ◌∷◌, [], map, length, take, refl, sym, ap, ◌∙◌, arith, None, Some, length-set}
use Rattle.std.specs.List.{filter_map}
use Rattle.std.proofs.lemmas.Grind.{common_steps}
use Rattle.std.proofs.lemmas.List.{take_all}
use Rattle.jj_dag.specs.Collecting.{index_in}
use Rattle.jj_dag.specs.PackedLists.{lists_of, open_list_of}
use Rattle.jj_dag.proofs.Linking.{counts_edge, counts_list, map_one_more, filter_map_found, filter_map_missed}
use Rattle.jj_dag.proofs.greatest_order.link.Goals as goal
use Rattle.jj_dag.proofs.greatest_order.link.Goals.{in-Some+in-Some-checked_add+in_ok-push, in_default}

pub loop-id-preserved : goal.loop-id-preserved
loop-id-preserved g c =
    let before = c.loop-id.invariant in
    let lt : c.loop-id.id-index < length c.deref-id-items.result.now = omega arith in
    elim c.match-get.branch [
      | in-Some+in-Some-checked_add+in_ok-push w ↦
          let index = w.in-Some.index in
          let found : index_in g.ID.PartialEq.eq (g.M.NodeMap.entries c.args.index_of.now) c.id-item.result ≡ Some index = sym w.in-Some.ensures in
          let within : index < length c.args.neighbor_ids.now = c.requires c.id-item.result index found in
          record {
            lengths = rw (w.indegrees-is) (length-set c.loop-id.indegrees.items index w.in-Some-checked_add.count ∙ before.lengths);
            counts = rw (w.indegrees-is, w.targets-is, w.in_ok-push.ensures.lists, w.in_ok-push.ensures.open_list)
                (counts_edge (length c.args.neighbor_ids.now) c.loop-id.indegrees.items (open_list_of c.loop-id.targets) (lists_of c.loop-id.targets) index w.index.result.now w.in-Some-checked_add.count before.counts (omega arith) w.index.ensures w.in-Some-checked_add.ensures.1);
            lists = rw (w.targets-is) (w.in_ok-push.ensures.lists ∙ before.lists);
            indices = rw (w.targets-is, w.in_ok-push.ensures.open_list, before.indices)
                (sym (filter_map_found (index_in g.ID.PartialEq.eq (g.M.NodeMap.entries c.args.index_of.now)) c.deref-id-items.result.now c.loop-id.id-index c.id-item.result index lt c.id-item.is found));
          }
      | in_default w ↦
          let missed : index_in g.ID.PartialEq.eq (g.M.NodeMap.entries c.args.index_of.now) c.id-item.result ≡ None = sym w.in_default.ensures in
          record {
            lengths = rw (w.indegrees-is) before.lengths;
            counts = rw (w.indegrees-is, w.targets-is) before.counts;
            lists = rw (w.targets-is) before.lists;
            indices = rw (w.targets-is, before.indices)
                (sym (filter_map_missed (index_in g.ID.PartialEq.eq (g.M.NodeMap.entries c.args.index_of.now)) c.deref-id-items.result.now c.loop-id.id-index c.id-item.result lt c.id-item.is missed));
          }
    ]

pub loop-ids-init : goal.loop-ids-init
loop-ids-init g c = record {
  lengths = omega (arith, c.in_ok-indegrees.ensures);
  counts = grind (arith, common_steps);
  open_list = c.new-targets.ensures.open_list;
  targets = c.new-targets.ensures.lists;
}

pub loop-id-init : goal.loop-id-init
loop-id-init g c =
    let before = c.loop-ids.invariant in
    record {
      lengths = before.lengths;
      counts = rw before.open_list before.counts;
      lists = refl;
      indices = before.open_list;
    }

pub index-requires : goal.index-requires
index-requires g c = omega (arith, c.loop-id.invariant.lengths, c.requires c.id-item.result c.in-Some.index (sym c.in-Some.ensures))

pub checked_add-requires : goal.checked_add-requires
checked_add-requires g c = search rules

pub index_mut-requires : goal.index_mut-requires
index_mut-requires g c = omega (arith, c.loop-id.invariant.lengths, c.requires c.id-item.result c.in-Some.index (sym c.in-Some.ensures))

pub loop-id-smaller : goal.loop-id-smaller
loop-id-smaller g c = search rules

pub loop-ids-smaller : goal.loop-ids-smaller
loop-ids-smaller g c = search rules

pub loop-ids-preserved : goal.loop-ids-preserved
loop-ids-preserved g c =
    let h = index_in g.ID.PartialEq.eq (g.M.NodeMap.entries c.args.index_of.now) in
    let row = open_list_of c.loop-id.targets in
    let whole : row ≡ filter_map h c.ids-item.result.items =
    c.loop-id.invariant.indices ∙ ap (filter_map h) (take_all c.loop-id.id-index c.deref-id-items.result.now (omega arith) ∙ c.deref-id-items.ensures.value) in
    record {
      lengths = c.loop-id.invariant.lengths;
      counts = rw c.in_ok-finish_list.ensures.lists
          (counts_list (length c.args.neighbor_ids.now) c.loop-id.indegrees.items row (lists_of c.loop-id.targets) c.loop-id.invariant.counts);
      open_list = c.in_ok-finish_list.ensures.open_list;
      targets = c.in_ok-finish_list.ensures.lists ∙ ap (λ ls. ls ++ row ∷ []) (c.loop-id.invariant.lists ∙ c.loop-ids.invariant.targets)
          ∙ ap (λ l. map (λ v. filter_map h v.items) (take c.loop-ids.ids-index c.args.neighbor_ids.now) ++ l ∷ []) whole
          ∙ sym (map_one_more (λ v. filter_map h v.items) c.args.neighbor_ids.now c.loop-ids.ids-index c.ids-item.result (omega arith) c.ids-item.is);
    }

pub returns-clause-targets : goal.returns-clause-targets
returns-clause-targets g c =
    let h = index_in g.ID.PartialEq.eq (g.M.NodeMap.entries c.args.index_of.now) in
    c.loop-ids.invariant.targets ∙ ap (map (λ v. filter_map h v.items)) (take_all c.loop-ids.ids-index c.args.neighbor_ids.now (omega arith))

pub returns-clause-counts : goal.returns-clause-counts
returns-clause-counts g c = c.loop-ids.invariant.lengths

pub returns-clause-indegrees : goal.returns-clause-indegrees
returns-clause-indegrees g c = search rules
