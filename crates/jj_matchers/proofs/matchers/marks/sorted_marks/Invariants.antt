-- the paths so far are copied
use Rattle.std.proofs.Common.{◌≡◌, map, take}
use Rattle.jj_paths.specs.Names.{path_of}
use Rattle.jj_matchers.specs.KeyedMarks.{keyed_path}
use Rattle.jj_matchers.proofs.matchers.marks.sorted_marks.Given as goal

abbrev pub invariant-loop-mark : goal.invariant-loop-mark
invariant-loop-mark l = map path_of l.sorted.items ≡ map keyed_path (take l.mark-index l.mark-items)
