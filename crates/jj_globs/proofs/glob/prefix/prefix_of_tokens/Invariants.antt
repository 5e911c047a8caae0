-- The bytes so far, then the literal prefix of the tokens left, are the literal prefix of all
-- tokens.
use Rattle.std.proofs.Common.{◌≡◌, ◌++◌, length}
use Rattle.jj_globs.specs.GlobPrefix.{leading_bytes}
use Rattle.jj_globs.proofs.glob.prefix.prefix_of_tokens.Given as goal

abbrev pub invariant-loop-byte : goal.invariant-loop-byte
invariant-loop-byte l = l.prefix.items ++ leading_bytes l.left ≡ leading_bytes l.tokens

abbrev pub decreases-loop-byte : goal.decreases-loop-byte
decreases-loop-byte l = length l.left
