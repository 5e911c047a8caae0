use Rattle.std.proofs.Common.{◌≡◌}
use Rattle.std.specs.List.{list_any}
use Rattle.jj_file_merges.specs.Markings.{has_executable_side, is_executable}
use Rattle.jj_file_merges.proofs.marking.has_executable_side.Given as goal

abbrev pub invariant-loop-value : goal.invariant-loop-value
invariant-loop-value l = record {
  can : (goal.iterator-loop-value).can_next l.value-iterator;
  ends : (goal.iterator-loop-value).is_finite l.value-iterator;
  left : list_any is_executable l.value-iterator ≡ has_executable_side l.fn.values;
}
