use Rattle.std.proofs.Common.{◌≡◌, ◌++◌, length}
use Rattle.jj_conflicts.specs.Rendering.{prefixed}
use Rattle.jj_conflicts.proofs.conflicts.sections.push_prefixed.Given as goal

abbrev pub invariant-loop-rest : goal.invariant-loop-rest
invariant-loop-rest l =
    l.text.items ++ prefixed l.byte l.rest ≡ l.fn.text.items ++ prefixed l.byte l.lines

abbrev pub decreases-loop-rest : goal.decreases-loop-rest
decreases-loop-rest l = length l.rest
