use Rattle.std.proofs.Common.{◌≡◌, ◌++◌, ◌||◌, map}
use Rattle.std.specs.List.Sorted.{IsStrictlySortedBy}
use Rattle.jj_paths.specs.Names.{name_of, path_of}
use Rattle.jj_paths.specs.Paths.{Name, name_cmp}
use Rattle.jj_matchers.specs.SortedVisits.{is_named}
use Rattle.jj_matchers.specs.Visits.{is_among}
use Rattle.jj_trees.specs.DirectoryMerges.{entries_of}
use Rattle.jj_tree_files.proofs.Differing.{ChangesPassed}
use Rattle.jj_tree_files.proofs.changes.+list_changes.Given as goal

abbrev pub decreases-list_changes : goal.decreases-list_changes
decreases-list_changes g l = l.levels

abbrev pub invariant-loop-name : goal.invariant-loop-name
invariant-loop-name g l = record {
  ordered : IsStrictlySortedBy (λ a b. name_cmp (name_of a) (name_of b)) (l.yielded ++ l.name-iterator);
  named : (name : Name) → is_named (l.yielded ++ l.name-iterator) name ≡ (is_among (map (λ e. e.0) (entries_of (g.B.Backend.objects l.backend).trees l.pair.before)) name || is_among (map (λ e. e.0) (entries_of (g.B.Backend.objects l.backend).trees l.pair.after)) name);
  passed : ChangesPassed (g.B.Backend.objects l.backend).trees (g.M.Matcher.accepts l.matcher) (g.M.Matcher.visits l.matcher) (g.B.Backend.may_read_tree l.backend)
      (path_of l.dir) l.pair.before l.pair.after (map name_of l.yielded) l.initial.changes.items l.changes.items;
}
