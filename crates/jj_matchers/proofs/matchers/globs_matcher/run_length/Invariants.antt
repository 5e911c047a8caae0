-- the patterns so far are in the directory
use Rattle.std.proofs.Common.{◌≡◌, All, take}
use Rattle.jj_paths.specs.Names.{path_of}
use Rattle.jj_matchers.proofs.matchers.globs_matcher.run_length.Given as goal

abbrev pub invariant-loop-other : goal.invariant-loop-other
invariant-loop-other l = record {
  index : l.count ≡ l.other-index;
  same : All (λ pattern. path_of pattern.0 ≡ path_of l.dir) (take l.count l.patterns);
}
