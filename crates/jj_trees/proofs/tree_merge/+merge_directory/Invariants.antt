use Rattle.std.proofs.Common.{◌++◌, ◌-◌, map, List, Option}
use Rattle.jj_paths.specs.Paths.{Name}
use Rattle.jj_paths.specs.Names.{path_of}
use Rattle.jj_backend.specs.declared.backend.tree_value.TreeValue.{TreeValue}
use Rattle.jj_trees.specs.DirectoryMerges.{entries_of, IsReadAt, FailsAt, conflict_entries}
use Rattle.jj_trees.specs.Rows.{AreRows}
use Rattle.jj_trees.proofs.Merging.{Passed, same_values}
use Rattle.jj_trees.proofs.tree_merge.+merge_directory.Given as goal
use Rattle.std.specs.Option.{option_eq}
use Rattle.std.specs.Vec.Iter.{into_iter_items}
use Rattle.jj_backend.specs.contracts.backend.tree_value.TreeValuePartialEq.TheImpl as tree_values

abbrev pub decreases-merge_directory : goal.decreases-merge_directory
decreases-merge_directory g l = l.levels

abbrev pub invariant-loop-row : goal.invariant-loop-row
invariant-loop-row g l = record {
  can : (goal.iterator-loop-row g).can_next l.row-iterator;
  ends : (goal.iterator-loop-row g).is_finite l.row-iterator;
  rows : AreRows (map (entries_of (g.B.Backend.objects l.backend).trees) l.values)
      (map {B = Name × List (Option TreeValue)} (λ row. (row.name, row.values.items)) (l.yielded ++ into_iter_items l.row-iterator));
  passed : Passed (option_eq tree_values.eq-value.it) same_values (g.B.Backend.objects l.backend).trees l.same_change l.labels
      (IsReadAt (g.B.Backend.objects l.backend).trees (g.B.Backend.may_read_tree l.backend))
      (FailsAt (g.B.Backend.objects l.backend).trees (g.B.Backend.may_read_tree l.backend) (g.B.Backend.may_fail l.backend))
      (l.levels - 1) l.values (path_of l.dir) (map (λ row. row.name) l.yielded)
      l.initial.merged.resolved.items l.merged.resolved.items (conflict_entries l.initial.merged.conflicts.items) (conflict_entries l.merged.conflicts.items);
}
