use Rattle.std.proofs.Common.{◌≡◌, ◌≤◌, length, take}
use Rattle.jj_diff.proofs.diff.common.shared_start.Given as goal

abbrev pub invariant-loop-index : goal.invariant-loop-index
invariant-loop-index l = record {
  within : l.index ≤ length l.right;
  equal : take l.index l.right ≡ take l.index l.left;
}
