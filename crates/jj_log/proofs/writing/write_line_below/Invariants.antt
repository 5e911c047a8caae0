-- The columns so far.
use Rattle.std.proofs.Common.{◌≡◌, ℕ, List}
use Rattle.jj_log.specs.BufferedOutput.{AppendsBuffered}
use Rattle.jj_log.proofs.writing.write_line_below.Given as goal

abbrev pub invariant-loop-column : goal.invariant-loop-column
invariant-loop-column g l = record {
  passed : (line : List ℕ) × AppendsBuffered (g.W.Sink.contents l.initial.writer) (g.W.Sink.contents l.writer) l.initial.buffer.pending.items l.buffer.pending.items line;
  works : g.W.Sink.has_failed l.writer ≡ g.W.Sink.has_failed l.initial.writer;
}
