use Rattle.std.proofs.Common.{◌≡◌, map}
use Rattle.jj_walks.proofs.DfsOkRuns.{as_walk_item}
use Rattle.jj_walks.proofs.walk_items.collect_dfs_ok.Given as goal

abbrev pub invariant-loop-item : goal.invariant-loop-item
invariant-loop-item g l = record {
  can : (goal.iterator-loop-item g).can_next l.item-iterator;
  finite : (goal.iterator-loop-item g).is_finite l.item-iterator;
  collected : l.yielded ≡ map as_walk_item l.items.items;
}
