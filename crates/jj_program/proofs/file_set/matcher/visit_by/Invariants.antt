-- The visits are those of the sets that the operations after `left` leave.
use Rattle.std.proofs.Common.{◌≡◌, ◌≤◌, drop, length, map, reverse}
use Rattle.jj_paths.specs.Names.{path_of}
use Rattle.jj_matchers.specs.SortedVisits.{sorted_visit_spec}
use Rattle.jj_program.specs.SetCode.{visits_at}
use Rattle.jj_program.proofs.file_set.matcher.visit_by.Given as goal

abbrev pub invariant-loop-left : goal.invariant-loop-left
invariant-loop-left l = record {
  within : l.left ≤ length l.code;
  visits : map sorted_visit_spec (reverse l.visits.items) ≡ visits_at (path_of l.dir) (drop l.left l.code);
}

abbrev pub decreases-loop-left : goal.decreases-loop-left
decreases-loop-left l = l.left
