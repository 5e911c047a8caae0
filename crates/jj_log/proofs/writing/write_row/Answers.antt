use Rattle.jj_log.specs.Drawing.{styled_line_of_row}
use Rattle.jj_log.proofs.BufferedOutput.{WritesBuffered-later}
use Rattle.jj_log.proofs.writing.write_row.Goals as goal

pub returns-clause-output : goal.returns-clause-output
returns-clause-output g c =
    let contents = g.W.Sink.contents in
    let below = c.write_lines_below.ensures.output in (
      below.0,
      WritesBuffered-later (contents c.args.writer.now) (contents c.write_node_line.new.writer) (contents c.write_lines_below.new.writer) c.args.buffer.now.pending.items c.write_node_line.new.buffer.pending.items
          (styled_line_of_row c.args.style c.args.row.now c.args.label.now) below.0 c.in_ok-write_node_line.ensures.output c.write_lines_below.result c.write_lines_below.new.buffer.pending.items below.1,
    )
