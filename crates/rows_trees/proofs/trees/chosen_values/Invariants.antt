use Rattle.std.proofs.Common.{◌≡◌, length}
use Rattle.rows_trees.proofs.trees.chosen_values.Given as goal

abbrev pub invariant-loop-i : goal.invariant-loop-i
invariant-loop-i l = length l.chosen.items ≡ l.i
