-- The parts so far are empty.
use Rattle.std.proofs.Common.{◌≡◌, [], take}
use Rattle.jj_filter.proofs.ReportedLines.{line_of}
use Rattle.jj_filter.proofs.report.are_empty.Given as goal

abbrev pub invariant-loop-index : goal.invariant-loop-index
invariant-loop-index l = line_of (take l.index l.parts) ≡ []
