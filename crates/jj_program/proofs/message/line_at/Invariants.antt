-- The line to be found is among the remaining ones.
use Rattle.std.proofs.Common.{◌≡◌, ◌-◌, [], get_or, length}
use denote.Shadow.{shadow}
use denote.Text.{Utf8}
use Rattle.jj_program.specs.Lines.{lines_of}
use Rattle.jj_program.proofs.message.line_at.Given as goal

abbrev pub invariant-loop-fields : goal.invariant-loop-fields
invariant-loop-fields l = (get_or (lines_of l.rest) l.skipped [] ≡ get_or (lines_of l.fn.text) (l.fn.number - 1) []) × shadow (Utf8 l.rest)

abbrev pub decreases-loop-fields : goal.decreases-loop-fields
decreases-loop-fields l = length l.rest
