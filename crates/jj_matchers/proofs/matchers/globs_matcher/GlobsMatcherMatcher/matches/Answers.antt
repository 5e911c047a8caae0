use Rattle.std.proofs.Common.{◌≡◌, List, sym, ap, ◌∙◌, rules}
use Rattle.std.specs.List.{list_any}
use Rattle.std.proofs.lemmas.Iterator.Search.{any_from_yields_List}
use Rattle.std.proofs.lemmas.Iterator.Consumers.{YieldsList-from_first}
use Rattle.jj_paths.specs.Paths.{Path}
use Rattle.jj_paths.specs.Names.{path_of}
use Rattle.jj_paths.specs.Tree.{Tree}
use Rattle.jj_paths.specs.Children.{remaining_walk}
use Rattle.jj_globs.specs.GlobMeaning.{GlobSpec}
use Rattle.jj_matchers.specs.Patterns.{accepts_tail, is_accepted}
use Rattle.jj_matchers.proofs.PatternSound.{Decides-is_accepted}
use Rattle.jj_matchers.proofs.PatternTrees.{way_passes}
use Rattle.jj_matchers.proofs.matchers.globs_matcher.GlobsMatcherMatcher.matches.Goals as goal

pub returns : goal.returns
returns c =
    let path = path_of c.args.file in
    let flag = c.self.inside.matches_prefix_paths in
    let is : c.any.result ≡ is_accepted c.args.self.now path =
    any_from_yields_List (λ (step : Tree (List GlobSpec) × Path). list_any (λ glob. accepts_tail flag glob step.1) step.0.value) c.any.new.self _ _ c.any.ensures.ran
    (YieldsList-from_first (λ step. (step.0.now, path_of step.1)) remaining_walk _ c.walk_to.ensures.on_the_way)
    (λ x b q called. (search rules, search rules))
    ∙ way_passes c.self.inside.tree (accepts_tail flag) path
    ∙ ap (λ set. is_accepted set path) c.self.view_is in
    let told = Decides-is_accepted c.args.self.now path in
    record { accepted = is; meaning = ((λ h. told.0 (sym is ∙ h)), (λ m. is ∙ told.1 m)) }
