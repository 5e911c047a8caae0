-- The lines so far.
use Rattle.std.proofs.Common.{◌≡◌, ℕ, List}
use Rattle.jj_log.specs.BufferedOutput.{AppendsBuffered}
use Rattle.jj_log.proofs.writing.write_lines_below.Given as goal

abbrev pub invariant-loop-index : goal.invariant-loop-index
invariant-loop-index g l = record {
  passed : (lines : List ℕ) × AppendsBuffered (g.W.Sink.contents l.initial.writer) (g.W.Sink.contents l.writer) l.initial.buffer.pending.items l.buffer.pending.items lines;
  works : g.W.Sink.has_failed l.writer ≡ g.W.Sink.has_failed l.initial.writer;
}
