-- The columns so far.
use Rattle.std.proofs.Common.{◌≡◌}
use Rattle.jj_log.specs.BufferedOutput.{AppendsBuffered}
use Rattle.jj_log.specs.Drawing.{node_cells}
use Rattle.jj_log.proofs.writing.write_cells.Given as goal

abbrev pub invariant-loop-column : goal.invariant-loop-column
invariant-loop-column g l = record {
  passed : AppendsBuffered (g.W.Sink.contents l.initial.writer) (g.W.Sink.contents l.writer) l.initial.buffer.pending.items l.buffer.pending.items (node_cells l.style l.row.column l.is_root l.column);
  works : g.W.Sink.has_failed l.writer ≡ g.W.Sink.has_failed l.initial.writer;
}
