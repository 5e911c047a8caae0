-- the paths are unchanged
use Rattle.std.proofs.Common.{◌≡◌, map}
use Rattle.jj_matchers.specs.KeyedMarks.{keyed_path}
use Rattle.jj_matchers.proofs.matchers.marks.set_keys.Given as goal

abbrev pub invariant-loop-mark : goal.invariant-loop-mark
invariant-loop-mark l = map keyed_path l.marks ≡ map keyed_path l.initial.marks
