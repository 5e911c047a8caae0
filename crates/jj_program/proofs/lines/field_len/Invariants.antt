-- No byte so far is a TAB or an LF.
use Rattle.std.proofs.Common.{◌≡◌, ◌<◌, ℕ, false, get_or}
use Rattle.jj_program.proofs.LineFields.{is_end}
use Rattle.jj_program.proofs.lines.field_len.Given as goal

abbrev pub invariant-loop-index : goal.invariant-loop-index
invariant-loop-index l = (k : ℕ) → k < l.index → is_end (get_or l.bytes k 0) ≡ false
