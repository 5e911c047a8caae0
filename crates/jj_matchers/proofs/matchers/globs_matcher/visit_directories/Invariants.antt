use Rattle.std.proofs.Common.{◌≡◌, ◌||◌}
use Rattle.jj_paths.specs.Paths.{Name}
use Rattle.jj_paths.specs.Children.{remaining_children}
use Rattle.jj_paths.specs.Tree.{children}
use Rattle.jj_matchers.specs.Marks.{any_node}
use Rattle.jj_matchers.specs.SortedVisits.{is_named}
use Rattle.jj_matchers.proofs.Children.{any_named}
use Rattle.jj_matchers.proofs.PatternTrees.{marked_children}
use Rattle.jj_matchers.proofs.matchers.globs_matcher.visit_directories.Given as goal

-- the names so far and the remaining ones are all names
abbrev pub invariant-loop-name : goal.invariant-loop-name
invariant-loop-name l = record {
  can : (goal.iterator-loop-name).can_next l.name-iterator;
  finite : (goal.iterator-loop-name).is_finite l.name-iterator;
  dirs : (name : Name) → (is_named l.dirs.keys name || any_named any_node name (marked_children (remaining_children l.name-iterator))) ≡ any_named any_node name (marked_children (children l.tree.branches));
}
