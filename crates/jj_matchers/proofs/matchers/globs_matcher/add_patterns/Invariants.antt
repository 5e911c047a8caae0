-- the patterns so far are appended to those that the directory had
use Rattle.std.proofs.Common.{◌≡◌, ◌++◌, map, take}
use Rattle.jj_paths.specs.Names.{path_of}
use Rattle.jj_matchers.specs.PatternTree.{globs_at}
use Rattle.jj_matchers.proofs.matchers.globs_matcher.add_patterns.Given as goal

abbrev pub invariant-loop-pattern : goal.invariant-loop-pattern
invariant-loop-pattern l = l.all ≡ globs_at l.tree (path_of l.dir) ++ map (λ p. p.1.now) (take l.pattern-index l.patterns)
