-- the marks so far are inserted
use Rattle.std.proofs.Common.{map, take}
use Rattle.jj_paths.specs.Names.{path_of}
use Rattle.jj_matchers.specs.Marks.{IsMarkedTree}
use Rattle.jj_matchers.proofs.matchers.marks.marked_tree.Given as goal

abbrev pub invariant-loop-mark : goal.invariant-loop-mark
invariant-loop-mark l = IsMarkedTree (map path_of (take l.mark-index l.mark-items)) l.tree
