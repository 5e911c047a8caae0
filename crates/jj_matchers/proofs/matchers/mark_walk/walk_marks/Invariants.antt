-- the marks so far are visited
use Rattle.std.proofs.Common.{map, take}
use Rattle.jj_paths.specs.Names.{path_of}
use Rattle.jj_matchers.specs.MarkWalkInvariants.{WalkedMarks}
use Rattle.jj_matchers.proofs.matchers.mark_walk.walk_marks.Given as goal

abbrev pub invariant-loop-mark : goal.invariant-loop-mark
invariant-loop-mark g l = WalkedMarks (g.M.Matcher.accepts l.matcher) (g.M.Matcher.opens l.matcher) (g.M.Matcher.visits l.matcher) (map path_of (take l.mark-index l.mark-items))
    (map path_of l.walk.files.items) (map path_of l.walk.entered.items) l.stack.items
