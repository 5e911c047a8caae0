use Rattle.std.proofs.Common.{◌&&◌, List, sym, ap, ◌∙◌, rules}
use Rattle.std.specs.List.{list_any}
use Rattle.std.proofs.lemmas.Iterator.Search.{any_from_yields_List}
use Rattle.std.proofs.lemmas.Iterator.Consumers.{YieldsList-from_first}
use Rattle.jj_paths.specs.Paths.{Path}
use Rattle.jj_paths.specs.Names.{path_of}
use Rattle.jj_paths.specs.Tree.{Tree}
use Rattle.jj_paths.specs.Children.{remaining_walk}
use Rattle.jj_globs.specs.GlobMeaning.{GlobSpec}
use Rattle.jj_matchers.specs.Patterns.{covers_tail, tail_passes, is_covered}
use Rattle.jj_matchers.specs.PatternTree.{patterns_of}
use Rattle.jj_matchers.proofs.PatternTrees.{way_passes}
use Rattle.jj_matchers.proofs.matchers.globs_matcher.GlobsMatcher.covers.Goals as goal

pub returns-then-self : goal.returns-then-self
returns-then-self c =
    let dir = path_of c.args.dir in
    let tree = c.self.inside.tree in
    any_from_yields_List (λ (step : Tree (List GlobSpec) × Path). list_any (λ glob. covers_tail glob step.1) step.0.value) c.any.new.self _ _ c.any.ensures.ran
    (YieldsList-from_first (λ step. (step.0.now, path_of step.1)) remaining_walk _ c.walk_to.ensures.on_the_way)
    (λ x b q called. (search rules, search rules))
    ∙ way_passes tree covers_tail dir
    ∙ ap (λ b. b && list_any (λ (pattern : Path × GlobSpec). tail_passes pattern.0 (covers_tail pattern.1) dir) (patterns_of tree)) (sym c.if-self.true)
    ∙ ap (λ set. is_covered set dir) c.self.view_is
