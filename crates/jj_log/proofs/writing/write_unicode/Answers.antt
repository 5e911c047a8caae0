use Rattle.std.proofs.lemmas.Result.{err_from_is_err_and}
use Rattle.std.proofs.Common.{rules, ◌∙◌}
use Rattle.jj_log.specs.Styles.{unicode_glyph, unicode_glyphs}
use Rattle.jj_log.proofs.BufferedOutput.{buffered_failed}
use Rattle.jj_log.proofs.WrittenRows.{flat_failed, flat_passed}
use Rattle.jj_log.proofs.writing.write_unicode.Goals as goal

pub returns-in_err-append-clause-output : goal.returns-in_err-append-clause-output
returns-in_err-append-clause-output g c =
    let contents = g.W.Sink.contents in
    let p = err_from_is_err_and c.from_residual.result c.from_residual.ensures.1 in
    buffered_failed c.from_residual.result p.0 (contents c.args.writer.now) (contents c.append.new.writer) c.args.buffer.now.pending.items c.append.new.self.pending.items (unicode_glyphs c.args.glyphs.now) p.1
    (flat_failed unicode_glyph c.args.glyphs.now c.loop-byte.byte-index _ c.loop-byte-test.true (contents c.args.writer.now) (contents c.loop-byte.writer) (contents c.append.new.writer) c.args.buffer.now.pending.items c.loop-byte.buffer.pending.items c.as_bytes.result.now
    (c.as_bytes.ensures.value ∙ c.unicode_glyph.ensures) c.loop-byte.invariant.passed c.in_err-append.ensures.output)

pub loop-byte-preserved : goal.loop-byte-preserved
loop-byte-preserved g c =
    let contents = g.W.Sink.contents in
    record {
      passed = flat_passed unicode_glyph c.args.glyphs.now c.loop-byte.byte-index _ c.loop-byte-test.true (contents c.args.writer.now) (contents c.loop-byte.writer) (contents c.append.new.writer) c.args.buffer.now.pending.items c.loop-byte.buffer.pending.items c.as_bytes.result.now
          (c.as_bytes.ensures.value ∙ c.unicode_glyph.ensures) c.loop-byte.invariant.passed c.append.new.self.pending.items c.in_ok-append.ensures.output;
      works = search rules;
    }
