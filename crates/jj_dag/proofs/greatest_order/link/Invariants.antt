use Rattle.std.proofs.Common.{◌≡◌, [], map, length, take}
use Rattle.std.specs.List.{filter_map}
use Rattle.jj_dag.specs.Collecting.{index_in}
use Rattle.jj_dag.specs.PackedLists.{lists_of, open_list_of}
use Rattle.jj_dag.proofs.Linking.{AreCounts}
use Rattle.jj_dag.proofs.greatest_order.link.Given as goal

abbrev pub invariant-loop-ids : goal.invariant-loop-ids
invariant-loop-ids g l = record {
  lengths : length l.indegrees.items ≡ length l.neighbor_ids;
  counts : AreCounts (length l.neighbor_ids) l.indegrees.items (lists_of l.targets) [];
  open_list : open_list_of l.targets ≡ [];
  targets : lists_of l.targets ≡ map (λ v. filter_map (index_in g.ID.PartialEq.eq (g.M.NodeMap.entries l.index_of)) v.items) (take l.ids-index l.neighbor_ids);
}

abbrev pub invariant-loop-id : goal.invariant-loop-id
invariant-loop-id g l = record {
  lengths : length l.indegrees.items ≡ length l.neighbor_ids;
  counts : AreCounts (length l.neighbor_ids) l.indegrees.items (lists_of l.targets) (open_list_of l.targets);
  lists : lists_of l.targets ≡ lists_of l.initial.targets;
  indices : open_list_of l.targets ≡ filter_map (index_in g.ID.PartialEq.eq (g.M.NodeMap.entries l.index_of)) (take l.id-index l.id-items);
}
