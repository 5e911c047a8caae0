use Rattle.jj_backend.proofs.SortedEntries.{AscendBelow}
use Rattle.jj_backend.proofs.backend.tree.find_duplicate.Given as goal

abbrev pub invariant-loop-i : goal.invariant-loop-i
invariant-loop-i l = AscendBelow l.entries l.i
