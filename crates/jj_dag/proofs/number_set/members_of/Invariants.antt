-- The members so far, and those left.
use Rattle.std.proofs.Common.{◌≡◌, ◌++◌}
use Rattle.jj_dag.proofs.number_set.members_of.Given as goal

abbrev pub invariant-loop-member : goal.invariant-loop-member
invariant-loop-member l = l.members.items ++ l.member-iterator ≡ l.set.keys
