-- The rest consists of `**` components exactly if the whole pattern does.
use Rattle.std.proofs.Common.{◌≡◌, length, map}
use Rattle.jj_globs.specs.GlobSyntax.{symbol_of, only_dirs}
use Rattle.jj_globs.proofs.glob.parser.is_only_dirs.Given as goal

abbrev pub invariant-loop-after : goal.invariant-loop-after
invariant-loop-after l = record { same : only_dirs (map symbol_of l.fn.text) ≡ only_dirs (map symbol_of l.rest) }

abbrev pub decreases-loop-after : goal.decreases-loop-after
decreases-loop-after l = length l.rest
