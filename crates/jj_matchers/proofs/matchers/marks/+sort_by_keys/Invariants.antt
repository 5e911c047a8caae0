-- the runs before `start` are sorted, and no mark is lost
use Rattle.std.proofs.Common.{◌-◌, ◌≤◌, map, length}
use Rattle.std.specs.List.Sorted.{IsPermutation}
use Rattle.jj_matchers.specs.KeyedMarks.{keyed_path}
use Rattle.jj_matchers.proofs.matchers.marks.+sort_by_keys.Given as goal

abbrev pub decreases-sort_by_keys : goal.decreases-sort_by_keys
decreases-sort_by_keys l = 8 - l.depth

abbrev pub invariant-loop-start : goal.invariant-loop-start
invariant-loop-start l = record {
  moved : IsPermutation (map keyed_path l.initial.marks) (map keyed_path l.marks);
  in_range : l.start ≤ length l.marks;
}

abbrev pub decreases-loop-start : goal.decreases-loop-start
decreases-loop-start l = length l.initial.marks - l.start
