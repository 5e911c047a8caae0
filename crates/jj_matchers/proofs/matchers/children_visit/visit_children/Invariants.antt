use Rattle.std.proofs.Common.{◌≡◌, ◌||◌}
use Rattle.jj_paths.specs.Paths.{Name}
use Rattle.jj_paths.specs.Children.{remaining_children}
use Rattle.jj_paths.specs.Tree.{children}
use Rattle.jj_matchers.specs.Marks.{counts_as_dir, has_mark}
use Rattle.jj_matchers.specs.SortedVisits.{is_named}
use Rattle.jj_matchers.proofs.Children.{any_named}
use Rattle.jj_matchers.proofs.matchers.children_visit.visit_children.Given as goal

-- the names so far and the remaining ones are all names
abbrev pub invariant-loop-name : goal.invariant-loop-name
invariant-loop-name l = record {
  can : (goal.iterator-loop-name).can_next l.name-iterator;
  finite : (goal.iterator-loop-name).is_finite l.name-iterator;
  dirs : (name : Name) → (is_named l.dirs.keys name || any_named (counts_as_dir l.all_dirs) name (remaining_children l.name-iterator)) ≡ any_named (counts_as_dir l.all_dirs) name (children l.tree.branches);
  files : (name : Name) → (is_named l.files.keys name || any_named has_mark name (remaining_children l.name-iterator)) ≡ any_named has_mark name (children l.tree.branches);
}
