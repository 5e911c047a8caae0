-- The parts so far are written.
use Rattle.std.proofs.Common.{take}
use Rattle.std.specs.Io.KnownBytes.{Appends}
use Rattle.jj_filter.proofs.ReportedLines.{line_of}
use Rattle.jj_filter.proofs.report.write_parts.Given as goal

abbrev pub invariant-loop-index : goal.invariant-loop-index
invariant-loop-index g l =
    Appends (g.E.Sink.contents l.initial.errors) (g.E.Sink.contents l.errors) (line_of (take l.index l.parts))
