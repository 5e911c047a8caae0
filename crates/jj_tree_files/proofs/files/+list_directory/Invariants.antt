use Rattle.std.proofs.Common.{◌≡◌, ◌++◌, map, Some}
use Rattle.jj_paths.specs.Names.{path_of}
use Rattle.jj_backend.specs.Trees.{entry_of, entries_left}
use Rattle.jj_backend.specs.declared.backend.tree_value.TreeValue.TheVariants.{Tree}
use Rattle.jj_tree_files.proofs.Listed.{FilesPassed, names_of}
use Rattle.jj_tree_files.proofs.files.+list_directory.Given as goal

abbrev pub decreases-list_directory : goal.decreases-list_directory
decreases-list_directory g l = l.levels

abbrev pub invariant-loop-entry : goal.invariant-loop-entry
invariant-loop-entry g l = record {
  whole : (g.B.Backend.objects l.backend).trees l.id ≡ Some (map entry_of l.yielded ++ entries_left l.entry-iterator);
  passed : FilesPassed (g.B.Backend.objects l.backend).trees (g.M.Matcher.accepts l.matcher) (g.M.Matcher.visits l.matcher) (g.B.Backend.may_read_tree l.backend)
      (path_of l.dir) (Some (Tree l.id)) (names_of (map entry_of l.yielded)) l.initial.files.items l.files.items;
}
