use Rattle.std.proofs.Common.{List, ap, ◌∙◌, rules}
use Rattle.std.proofs.lemmas.Iterator.Search.{any_from_yields_List}
use Rattle.std.proofs.lemmas.Iterator.Consumers.{YieldsList-from_first}
use Rattle.jj_paths.specs.Paths.{Path}
use Rattle.jj_paths.specs.Names.{path_of}
use Rattle.jj_paths.specs.Tree.{Tree}
use Rattle.jj_paths.specs.Children.{remaining_walk}
use Rattle.jj_globs.specs.GlobMeaning.{GlobSpec}
use Rattle.jj_matchers.specs.PathLists.{has_prefix}
use Rattle.jj_matchers.specs.Patterns.{pattern_dirs}
use Rattle.jj_matchers.specs.PatternTree.{has_globs}
use Rattle.jj_matchers.proofs.PatternTrees.{way_has}
use Rattle.jj_matchers.proofs.matchers.globs_matcher.GlobsMatcher.has_patterns_above.Goals as goal

pub returns : goal.returns
returns c =
    let dir = path_of c.args.dir in
    any_from_yields_List (λ (step : Tree (List GlobSpec) × Path). has_globs step.0.value) c.any.new.self _ _ c.any.ensures.ran
    (YieldsList-from_first (λ step. (step.0.now, path_of step.1)) remaining_walk _ c.walk_to.ensures.on_the_way)
    (λ x b q called. (search rules, search rules))
    ∙ way_has c.self.inside.tree dir
    ∙ ap (λ set. has_prefix (pattern_dirs set) dir) c.self.view_is
