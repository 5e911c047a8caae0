-- the last directories are closed, and those that were are not above the path
use Rattle.std.proofs.Common.{◌≡◌, ◌≢◌, ◌⊎◌, ◌≤◌, ◌++◌, length, take, get_or}
use Rattle.jj_paths.specs.Names.{path_of}
use Rattle.jj_paths.specs.Paths.{Path}
use Rattle.jj_matchers.specs.MarkWalkInvariants.{dir_of}
use Rattle.jj_matchers.specs.declared.matchers.mark_walk.OpenDirectory.{OpenDirectory}
use Rattle.jj_matchers.proofs.matchers.mark_walk.close_others.Given as goal

abbrev pub invariant-loop-directory : goal.invariant-loop-directory
invariant-loop-directory l = record {
  is : l.stack.items ≡ take (length l.stack.items) l.initial.stack.items;
  within : length l.stack.items ≤ length l.initial.stack.items;
  cut : (length l.stack.items ≡ length l.initial.stack.items)
      ⊎ ((d : OpenDirectory) (rest : Path) → path_of l.path ≢ dir_of (get_or l.initial.stack.items (length l.stack.items) d) ++ rest);
}

abbrev pub decreases-loop-directory : goal.decreases-loop-directory
decreases-loop-directory l = length l.stack.items
