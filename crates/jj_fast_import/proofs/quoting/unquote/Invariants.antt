use Rattle.std.proofs.Common.{◌≡◌, length}
use Rattle.jj_fast_import.specs.declared.quoting.Escape.TheVariants.{Outside}
use Rattle.jj_fast_import.specs.Quoting.{unquoted}
use Rattle.jj_fast_import.proofs.Splits.{prepended}
use Rattle.jj_fast_import.proofs.quoting.unquote.Given as goal

abbrev pub invariant-loop-byte : goal.invariant-loop-byte
invariant-loop-byte l = prepended l.bytes.items (unquoted l.escape l.rest) ≡ unquoted Outside l.fn.text

abbrev pub decreases-loop-byte : goal.decreases-loop-byte
decreases-loop-byte l = length l.rest
