use Rattle.std.proofs.Common.{Bool, ap, ◌∙◌, rules}
use Rattle.std.proofs.lemmas.Iterator.Search.{any_from_yields_List}
use Rattle.std.proofs.lemmas.Iterator.Consumers.{YieldsList-from_first}
use Rattle.jj_paths.specs.Paths.{Path}
use Rattle.jj_paths.specs.Names.{path_of}
use Rattle.jj_paths.specs.Tree.{Tree}
use Rattle.jj_paths.specs.Children.{remaining_walk}
use Rattle.jj_matchers.specs.PathLists.{has_prefix}
use Rattle.jj_matchers.proofs.Marks.{has_prefix-way}
use Rattle.jj_matchers.proofs.matchers.prefix_matcher.PrefixMatcherMatcher.matches.Goals as goal

pub returns : goal.returns
returns c =
    let path = path_of c.args.file in
    any_from_yields_List (λ (step : Tree Bool × Path). step.0.value) c.any.new.self _ _ c.any.ensures.ran
    (YieldsList-from_first (λ step. (step.0.now, path_of step.1)) remaining_walk _ c.walk_to.ensures.on_the_way)
    (λ x b q called. (search rules, search rules))
    ∙ has_prefix-way c.self.inside.tree path
    ∙ ap (λ prefixes. has_prefix prefixes path) c.self.view_is
