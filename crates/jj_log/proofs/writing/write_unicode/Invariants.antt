-- The characters so far.
use Rattle.std.proofs.Common.{◌≡◌, take}
use Rattle.jj_log.specs.BufferedOutput.{AppendsBuffered}
use Rattle.jj_log.specs.Styles.{unicode_glyphs}
use Rattle.jj_log.proofs.writing.write_unicode.Given as goal

abbrev pub invariant-loop-byte : goal.invariant-loop-byte
invariant-loop-byte g l = record {
  passed : AppendsBuffered (g.W.Sink.contents l.initial.writer) (g.W.Sink.contents l.writer) l.initial.buffer.pending.items l.buffer.pending.items (unicode_glyphs (take l.byte-index l.glyphs));
  works : g.W.Sink.has_failed l.writer ≡ g.W.Sink.has_failed l.initial.writer;
}
