-- The characters so far.
use Rattle.std.proofs.Common.{◌≡◌, ◌++◌, take}
use Rattle.std.specs.Prelude.{string_bytes}
use Rattle.jj_log.specs.Styles.{unicode_glyphs}
use Rattle.jj_log.proofs.style.push_unicode.Given as goal

abbrev pub invariant-loop-byte : goal.invariant-loop-byte
invariant-loop-byte l = string_bytes l.drawing ≡ string_bytes l.initial.drawing ++ unicode_glyphs (take l.byte-index l.glyphs)
