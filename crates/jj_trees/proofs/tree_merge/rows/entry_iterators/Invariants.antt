use Rattle.std.proofs.Common.{◌≡◌, true, map, take}
use Rattle.std.specs.Prelude.{All}
use Rattle.std.specs.FinMap.{is_sorted}
use Rattle.jj_paths.specs.Paths.{name_cmp}
use Rattle.jj_backend.specs.Trees.{entries_left}
use Rattle.jj_trees.proofs.tree_merge.rows.entry_iterators.Given as goal

abbrev pub invariant-loop-tree : goal.invariant-loop-tree
invariant-loop-tree l = record {
  entries : map entries_left l.remaining_lists.items ≡ take l.tree-index l.trees;
  ascending : All (λ tree. is_sorted name_cmp tree ≡ true) (take l.tree-index l.trees);
}
