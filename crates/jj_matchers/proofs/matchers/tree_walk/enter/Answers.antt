use Rattle.std.proofs.Common.{rules}
use Rattle.jj_matchers.proofs.matchers.tree_walk.enter.Goals as goal

pub returns-then-is_nothing-clause-entered : goal.returns-then-is_nothing-clause-entered
returns-then-is_nothing-clause-entered c = search rules

pub returns-clause-entered : goal.returns-clause-entered
returns-clause-entered c = search rules
