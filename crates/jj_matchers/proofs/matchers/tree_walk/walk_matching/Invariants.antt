use Rattle.jj_matchers.specs.WalkInvariants.{WalkInvariant, walk_measure}
use Rattle.jj_matchers.proofs.matchers.tree_walk.walk_matching.Given as goal

abbrev pub invariant-loop-directory : goal.invariant-loop-directory
invariant-loop-directory g l = WalkInvariant (g.M.Matcher.accepts l.matcher) (g.M.Matcher.opens l.matcher) (g.M.Matcher.visits l.matcher) l.tree l.walk.files.items l.walk.entered.items l.stack.items

abbrev pub decreases-loop-directory : goal.decreases-loop-directory
decreases-loop-directory g l = walk_measure l.stack.items
