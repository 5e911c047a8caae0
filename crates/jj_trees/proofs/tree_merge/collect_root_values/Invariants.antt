use Rattle.std.proofs.Common.{◌≡◌, take}
use Rattle.jj_trees.specs.TreeMerges.{root_values}
use Rattle.jj_trees.proofs.tree_merge.collect_root_values.Given as goal

abbrev pub invariant-loop-id : goal.invariant-loop-id
invariant-loop-id l = l.values.items ≡ root_values (take l.id-index l.ids)
