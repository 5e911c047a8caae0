-- The states so far lead by the remaining lines where the first state does by all lines.
use Rattle.std.proofs.Common.{◌≡◌, ◌+◌, ◌≤◌, length}
use denote.Shadow.{shadow}
use denote.Text.{Utf8}
use Rattle.jj_program.specs.Lines.{lines_of, after_lines}
use Rattle.jj_program.proofs.lines.take_lines.Given as goal

abbrev pub invariant-loop-fields : goal.invariant-loop-fields
invariant-loop-fields g l =
    ((start : g.M.Reading.State) → g.M.Reading.represents l.initial.reading start
    → (state : g.M.Reading.State) × (after_lines g.M.Reading.step l.line_number state (lines_of l.rest) ≡ after_lines g.M.Reading.step 1 start (lines_of l.fn.text))
    × g.M.Reading.represents l.reading state)
    × (l.line_number + length l.rest ≤ 1 + length l.fn.text)
    × shadow (Utf8 l.rest)

abbrev pub decreases-loop-fields : goal.decreases-loop-fields
decreases-loop-fields g l = length l.rest
