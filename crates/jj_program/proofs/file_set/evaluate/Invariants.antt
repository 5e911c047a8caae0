-- The state after the operations after `left`; at most as many combinations are short-circuited.
use Rattle.std.proofs.Common.{◌≡◌, ◌+◌, ◌≤◌, false, drop, length}
use Rattle.jj_paths.specs.Names.{path_of}
use Rattle.jj_program.specs.SetCode.{pass_over}
use Rattle.jj_program.proofs.file_set.evaluate.Given as goal

abbrev pub invariant-loop-left : goal.invariant-loop-left
invariant-loop-left l = record {
  few : l.pass.0 + l.left ≤ length l.code;
  is : l.pass ≡ pass_over (path_of l.file) (drop l.left l.code) (0, false);
}

abbrev pub decreases-loop-left : goal.decreases-loop-left
decreases-loop-left l = l.left
