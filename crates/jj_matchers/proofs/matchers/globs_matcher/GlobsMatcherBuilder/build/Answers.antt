use Rattle.std.proofs.Common.{Bor, ap, sym, ◌∙◌, map}
use Rattle.std.specs.List.{list_any}
use Rattle.std.proofs.lemmas.List.Sorted.{list_any-IsPermutation}
use Rattle.jj_paths.specs.Paths.{Path}
use Rattle.jj_paths.specs.declared.repo_path.RepoPath.{RepoPath}
use Rattle.jj_paths.specs.Names.{path_of}
use Rattle.jj_matchers.specs.declared.matchers.path_glob_pattern.PathGlobPattern.{PathGlobPattern}
use Rattle.jj_globs.specs.GlobMeaning.{GlobSpec}
use Rattle.jj_matchers.specs.Patterns.{Patterns}
use Rattle.jj_matchers.proofs.PatternTrees.{any-map, same_patterns}
use Rattle.jj_matchers.proofs.AcceptedPaths.{matched_by}
use Rattle.jj_matchers.proofs.matchers.globs_matcher.GlobsMatcherBuilder.build.Goals as goal

abbrev pattern_of : RepoPath × Bor PathGlobPattern → Path × GlobSpec
pattern_of p = (path_of p.0, p.1.now)

pub returns-clause-same : goal.returns-clause-same
returns-clause-same c =
    let sorted = c.as_slice-2.result.now in
    record {
      mode = ap (λ (set : Patterns). set.prefix_paths) c.self.view_is;
      members = λ test.
          let passes = λ (p : RepoPath × Bor PathGlobPattern). test (path_of p.0, p.1.now) in
          same_patterns c.in_ok-tree.tree (λ (p : Path × GlobSpec). p.0) (λ p. p.1) (map pattern_of sorted)
          (λ dir globs. c.in_ok-tree.ensures.globs dir globs) test
          ∙ any-map pattern_of test sorted
          ∙ ap (list_any passes) c.as_slice-2.ensures.value
          ∙ sym (list_any-IsPermutation passes _ _ c.sort_unstable_by_key.ensures.permutation)
          ∙ ap (list_any passes) (c.in_ok-sorted.ensures.items ∙ c.as_slice.ensures.value)
          ∙ sym (any-map pattern_of test c.self.inside.dir_patterns.items)
          ∙ ap (λ (set : Patterns). list_any test set.patterns) c.self.view_is;
    }

pub returns-clause-accepts : goal.returns-clause-accepts
returns-clause-accepts c = matched_by _ _ (returns-clause-same c)
