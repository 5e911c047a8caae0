use Rattle.std.proofs.Common.{◌≡◌, length}
use Rattle.jj_fast_import.specs.Words.{digits_after}
use Rattle.jj_fast_import.proofs.words.number.Given as goal

abbrev pub invariant-loop-byte : goal.invariant-loop-byte
invariant-loop-byte l = digits_after l.number l.rest ≡ digits_after 0 l.fn.text

abbrev pub decreases-loop-byte : goal.decreases-loop-byte
decreases-loop-byte l = length l.rest
