use Rattle.std.proofs.lemmas.Result.{err_from_is_err_and}
use Rattle.std.proofs.Common.{rules, ◌≡◌, ◌==◌, ◌++◌, length, subst}
use Rattle.jj_files.specs.Streams.{AppendsPrefixOf}
use Rattle.jj_log.specs.Drawing.{node_cells}
use Rattle.jj_log.proofs.BufferedOutput.{buffered_failed}
use Rattle.jj_log.proofs.WrittenRows.{cells_failed, cells_passed}
use Rattle.jj_log.proofs.writing.write_cells.Goals as goal

pub returns-in_err-write_glyphs-clause-output : goal.returns-in_err-write_glyphs-clause-output
returns-in_err-write_glyphs-clause-output g c =
    let contents = g.W.Sink.contents in
    let row = c.args.row.now in
    let is : c.is_empty-is_root.result ≡ (length row.edges.items == 0) = search rules in
    let p = err_from_is_err_and c.from_residual.result c.from_residual.ensures.1 in
    buffered_failed c.from_residual.result p.0 (contents c.args.writer.now) (contents c.write_glyphs.new.writer) c.args.buffer.now.pending.items c.write_glyphs.new.buffer.pending.items
    (node_cells c.args.style row.column (length row.edges.items == 0) row.width) p.1
    (subst (λ b. AppendsPrefixOf (contents c.args.writer.now) (contents c.write_glyphs.new.writer) (c.args.buffer.now.pending.items ++ node_cells c.args.style row.column b row.width)) is
    (cells_failed c.args.style row.column c.is_empty-is_root.result c.loop-column.column (contents c.args.writer.now) (contents c.loop-column.writer) (contents c.write_glyphs.new.writer) c.args.buffer.now.pending.items c.loop-column.buffer.pending.items c.node_glyph.result.now c.node_glyph.ensures
    c.loop-column.invariant.passed row.width c.loop-column-test.true c.in_err-write_glyphs.ensures.output))

pub loop-column-preserved : goal.loop-column-preserved
loop-column-preserved g c =
    let contents = g.W.Sink.contents in
    let row = c.args.row.now in
    record {
      passed = cells_passed c.args.style row.column c.is_empty-is_root.result c.loop-column.column (contents c.args.writer.now) (contents c.loop-column.writer) (contents c.write_glyphs.new.writer) c.args.buffer.now.pending.items c.loop-column.buffer.pending.items c.node_glyph.result.now c.node_glyph.ensures
          c.loop-column.invariant.passed c.write_glyphs.new.buffer.pending.items c.in_ok-write_glyphs.ensures.output;
      works = search rules;
    }
