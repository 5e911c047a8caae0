-- The remaining bytes end with the remaining literals exactly if the whole ones do.
use Rattle.std.proofs.Common.{◌≡◌, length, reverse}
use Rattle.jj_globs.specs.GlobSuffix.{matches_reversed}
use Rattle.jj_globs.proofs.glob.suffix.ends_with_literals.Given as goal

abbrev pub invariant-loop-own : goal.invariant-loop-own
invariant-loop-own l = matches_reversed l.options (reverse l.left) (reverse l.text) ≡ matches_reversed l.options (reverse l.literals) (reverse l.bytes)

abbrev pub decreases-loop-own : goal.decreases-loop-own
decreases-loop-own l = length l.left
