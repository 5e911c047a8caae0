use Rattle.std.proofs.lemmas.Result.{err_from_is_err_and}
use Rattle.std.proofs.Common.{rules, ◌++◌, ◌∷◌, []}
use Rattle.jj_log.specs.Styles.{styled}
use Rattle.jj_log.proofs.BufferedOutput.{WritesBuffered-later, AppendsBuffered-later, buffered_failed, prefix_later}
use Rattle.jj_log.proofs.writing.write_line_below.Goals as goal

pub returns-in_err-write_glyphs-clause-output : goal.returns-in_err-write_glyphs-clause-output
returns-in_err-write_glyphs-clause-output g c =
    let contents = g.W.Sink.contents in
    let old = c.args.buffer.now.pending.items in
    let so = c.loop-column.invariant.passed in
    let glyph = styled c.args.style c.glyph_below.result.now in
    let p = err_from_is_err_and c.from_residual.result c.from_residual.ensures.1 in (
      so.0 ++ glyph,
      buffered_failed c.from_residual.result p.0 (contents c.args.writer.now) (contents c.write_glyphs.new.writer) old c.write_glyphs.new.buffer.pending.items (so.0 ++ glyph) p.1
          (prefix_later (contents c.args.writer.now) (contents c.loop-column.writer) (contents c.write_glyphs.new.writer) old c.loop-column.buffer.pending.items so.0 glyph so.1 c.in_err-write_glyphs.ensures.output),
    )

pub loop-column-preserved : goal.loop-column-preserved
loop-column-preserved g c =
    let contents = g.W.Sink.contents in
    let so = c.loop-column.invariant.passed in
    let glyph = styled c.args.style c.glyph_below.result.now in
    record {
      passed = (
        so.0 ++ glyph,
        AppendsBuffered-later (contents c.args.writer.now) (contents c.loop-column.writer) (contents c.write_glyphs.new.writer) c.args.buffer.now.pending.items c.loop-column.buffer.pending.items so.0 glyph so.1 c.write_glyphs.new.buffer.pending.items c.in_ok-write_glyphs.ensures.output,
      );
      works = search rules;
    }

pub returns-clause-output : goal.returns-clause-output
returns-clause-output g c =
    let contents = g.W.Sink.contents in
    let so = c.loop-column.invariant.passed in (
      so.0 ++ 10 ∷ [],
      WritesBuffered-later (contents c.args.writer.now) (contents c.loop-column.writer) (contents c.append.new.writer) c.args.buffer.now.pending.items c.loop-column.buffer.pending.items so.0 (10 ∷ []) so.1 c.append.result c.append.new.self.pending.items c.append.ensures.output,
    )
