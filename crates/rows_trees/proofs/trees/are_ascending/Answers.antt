use Rattle.std.proofs.Common.{arith}
use Rattle.rows_trees.proofs.Ascending.{sorted}
use Rattle.rows_trees.proofs.trees.are_ascending.Goals as goal

pub returns : goal.returns
returns c = λ _. sorted c.args.entries.now (λ k d lt. c.loop-i.invariant k d (omega arith))
