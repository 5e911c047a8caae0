use Rattle.std.proofs.Common.{map}
use Rattle.jj_backend.specs.Trees.{entries_left}
use Rattle.jj_trees.proofs.PassedNames.{Passes, entries_count}
use Rattle.jj_trees.proofs.tree_merge.rows.merge_rows.Given as goal

abbrev pub invariant-loop-name : goal.invariant-loop-name
invariant-loop-name l = Passes l.trees (map entries_left l.remaining_lists.items) (map (λ row. (row.name, row.values.items)) l.rows.items)

abbrev pub decreases-loop-name : goal.decreases-loop-name
decreases-loop-name l = entries_count (map entries_left l.remaining_lists.items)
