use Rattle.rows_trees.proofs.Ascending.{AscendBelow}
use Rattle.rows_trees.proofs.trees.are_ascending.Given as goal

abbrev pub invariant-loop-i : goal.invariant-loop-i
invariant-loop-i l = AscendBelow l.entries l.i
