use Rattle.std.proofs.Common.{◌≡◌}
use Rattle.jj_diff.specs.Ends.{suffix}
use Rattle.jj_diff.proofs.diff.common.shared_end.Given as goal

abbrev pub invariant-loop-len : goal.invariant-loop-len
invariant-loop-len l = suffix l.len l.right ≡ suffix l.len l.left
