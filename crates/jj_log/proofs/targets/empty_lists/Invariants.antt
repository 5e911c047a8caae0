-- As many lists as rounds.
use Rattle.std.proofs.Common.{◌≡◌, length}
use Rattle.jj_log.proofs.targets.empty_lists.Given as goal

abbrev pub invariant-loop : goal.invariant-loop
invariant-loop l = length l.lists.items ≡ l.counter
