-- The patterns are those of the pairs so far.
use Rattle.std.proofs.Common.{◌≡◌, map}
use Rattle.jj_paths.specs.Names.{path_of}
use Rattle.jj_program.proofs.file_set.matcher.globs_matcher.Given as goal

abbrev pub invariant-loop-dir : goal.invariant-loop-dir
invariant-loop-dir l = l.builder ≡ record { prefix_paths = l.fn.prefix_paths; patterns = map (λ pair. (path_of pair.0.now, pair.1.now)) l.yielded }
