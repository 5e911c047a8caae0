-- The rows so far.
use Rattle.std.proofs.Common.{◌≡◌, ℕ, List, take}
use Rattle.jj_log.specs.BufferedOutput.{AppendsBuffered}
use Rattle.jj_log.specs.Drawing.{AreStyled}
use Rattle.jj_log.specs.Labels.{label_of}
use Rattle.jj_log.proofs.writing.write_all_rows.Given as goal

abbrev pub invariant-loop-row : goal.invariant-loop-row
invariant-loop-row g l = record {
  passed : (drawing : List ℕ) × AreStyled l.style (label_of l.commits) (take l.row-index l.rows) drawing × AppendsBuffered (g.W.Sink.contents l.initial.writer) (g.W.Sink.contents l.writer) l.initial.buffer.pending.items l.buffer.pending.items drawing;
  works : g.W.Sink.has_failed l.writer ≡ g.W.Sink.has_failed l.initial.writer;
}
