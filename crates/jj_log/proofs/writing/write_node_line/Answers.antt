use Rattle.std.proofs.lemmas.Result.{err_from_is_err_and}
use Rattle.std.proofs.Common.{◌==◌, ◌++◌, codes, length, subst}
use Rattle.jj_files.specs.Streams.{AppendsPrefixOf}
use Rattle.jj_log.specs.Drawing.{node_cells}
use Rattle.jj_log.specs.BufferedOutput.{AppendsBuffered}
use Rattle.jj_log.proofs.BufferedOutput.{WritesBuffered-later, AppendsBuffered-later, buffered_failed, prefix_later, prefix_more}
use Rattle.jj_log.proofs.writing.write_node_line.Goals as goal

pub returns-in_err-write_cells-clause-output : goal.returns-in_err-write_cells-clause-output
returns-in_err-write_cells-clause-output g c =
    let contents = g.W.Sink.contents in
    let row = c.args.row.now in
    let cells = node_cells c.args.style row.column (length row.edges.items == 0) row.width in
    let label = c.args.label.now in
    let old = contents c.args.writer.now in
    let new = contents c.write_cells.new.writer in
    let before = c.args.buffer.now.pending.items in
    let p = err_from_is_err_and c.from_residual.result c.from_residual.ensures.1 in
    buffered_failed c.from_residual.result p.0 old new before c.write_cells.new.buffer.pending.items (cells ++ codes " " ++ label ++ codes "\n") p.1
    (prefix_more old new before (cells ++ codes " " ++ label) (codes "\n") (prefix_more old new before (cells ++ codes " ") label (prefix_more old new before cells (codes " ") c.in_err-write_cells.ensures.output)))

pub returns-in_err-append-clause-output : goal.returns-in_err-append-clause-output
returns-in_err-append-clause-output g c =
    let contents = g.W.Sink.contents in
    let row = c.args.row.now in
    let cells = node_cells c.args.style row.column (length row.edges.items == 0) row.width in
    let label = c.args.label.now in
    let old = contents c.args.writer.now in
    let new = contents c.append.new.writer in
    let before = c.args.buffer.now.pending.items in
    let p = err_from_is_err_and c.from_residual-in_err-append.result c.from_residual-in_err-append.ensures.1 in
    buffered_failed c.from_residual-in_err-append.result p.0 old new before c.append.new.self.pending.items (cells ++ codes " " ++ label ++ codes "\n") p.1
    (prefix_more old new before (cells ++ codes " " ++ label) (codes "\n")
    (prefix_more old new before (cells ++ codes " ") label
    (prefix_later old (contents c.write_cells.new.writer) new before c.write_cells.new.buffer.pending.items cells (codes " ") c.in_ok-write_cells.ensures.output c.in_err-append.ensures.output)))

pub returns-in_err-append-2-clause-output : goal.returns-in_err-append-2-clause-output
returns-in_err-append-2-clause-output g c =
    let contents = g.W.Sink.contents in
    let row = c.args.row.now in
    let cells = node_cells c.args.style row.column (length row.edges.items == 0) row.width in
    let label = c.args.label.now in
    let old = contents c.args.writer.now in
    let middle = contents c.append.new.writer in
    let new = contents c.append-2.new.writer in
    let before = c.args.buffer.now.pending.items in
    let left = c.append.new.self.pending.items in
    let passed : AppendsBuffered old middle before left (cells ++ codes " ") =
    AppendsBuffered-later old (contents c.write_cells.new.writer) middle before c.write_cells.new.buffer.pending.items cells (codes " ") c.in_ok-write_cells.ensures.output left c.in_ok-append.ensures.output in
    let prefix : AppendsPrefixOf middle new (left ++ label) = subst (λ l. AppendsPrefixOf middle new (left ++ l)) c.as_bytes.ensures.value c.in_err-append-2.ensures.output in
    let p = err_from_is_err_and c.from_residual-in_err-append-2.result c.from_residual-in_err-append-2.ensures.1 in
    buffered_failed c.from_residual-in_err-append-2.result p.0 old new before c.append-2.new.self.pending.items (cells ++ codes " " ++ label ++ codes "\n") p.1
    (prefix_more old new before (cells ++ codes " " ++ label) (codes "\n") (prefix_later old middle new before left (cells ++ codes " ") label passed prefix))

pub returns-clause-output : goal.returns-clause-output
returns-clause-output g c =
    let contents = g.W.Sink.contents in
    let row = c.args.row.now in
    let cells = node_cells c.args.style row.column (length row.edges.items == 0) row.width in
    let label = c.args.label.now in
    let old = contents c.args.writer.now in
    let first = contents c.append.new.writer in
    let second = contents c.append-2.new.writer in
    let before = c.args.buffer.now.pending.items in
    let left = c.append.new.self.pending.items in
    let later = c.append-2.new.self.pending.items in
    let passed : AppendsBuffered old first before left (cells ++ codes " ") =
    AppendsBuffered-later old (contents c.write_cells.new.writer) first before c.write_cells.new.buffer.pending.items cells (codes " ") c.in_ok-write_cells.ensures.output left c.in_ok-append.ensures.output in
    let next : AppendsBuffered first second left later label = subst (AppendsBuffered first second left later) c.as_bytes.ensures.value c.in_ok-append-2.ensures.output in
    let labelled : AppendsBuffered old second before later (cells ++ codes " " ++ label) = AppendsBuffered-later old first second before left (cells ++ codes " ") label passed later next in
    WritesBuffered-later old second (contents c.append-3.new.writer) before later (cells ++ codes " " ++ label) (codes "\n") labelled c.append-3.result c.append-3.new.self.pending.items c.append-3.ensures.output
