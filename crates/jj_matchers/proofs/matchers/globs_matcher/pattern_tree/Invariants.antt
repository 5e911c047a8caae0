-- the trie has the patterns before `start`
use Rattle.std.proofs.Common.{◌≤◌, ◌-◌, map, take, length}
use Rattle.jj_paths.specs.Names.{path_of}
use Rattle.jj_matchers.specs.PatternTree.{IsPatternTree}
use Rattle.jj_matchers.proofs.matchers.globs_matcher.pattern_tree.Given as goal

abbrev pub invariant-loop-dir : goal.invariant-loop-dir
invariant-loop-dir l = record {
  tree : IsPatternTree (map (λ pattern. (path_of pattern.0, pattern.1.now)) (take l.start l.patterns)) l.tree;
  in_range : l.start ≤ length l.patterns;
}

abbrev pub decreases-loop-dir : goal.decreases-loop-dir
decreases-loop-dir l = length l.patterns - l.start
