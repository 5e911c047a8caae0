use Rattle.std.proofs.Common.{◌∙◌, ap, List}
use Rattle.std.specs.List.{list_any}
use Rattle.jj_globs.specs.GlobMeaning.{GlobSpec}
use Rattle.jj_matchers.specs.PatternOrder.{matches_string}
use Rattle.jj_matchers.specs.LinkedPatterns.{globs_of}
use Rattle.jj_matchers.specs.declared.matchers.pattern_order.LinkedPattern.{LinkedPattern}
use Rattle.jj_matchers.proofs.LinkedPatterns.{any_globs}
use Rattle.jj_matchers.proofs.matchers.dir_patterns.DirPatterns.any_matches.Goals as goal

pub returns-else-self : goal.returns-else-self
returns-else-self c =
    let test = λ (glob : GlobSpec). matches_string c.args.prefix_paths glob c.args.text.now in
    c.any_match.ensures
    ∙ any_globs test c.as_slice-patterns.result.now
    ∙ ap (λ (list : List LinkedPattern). list_any test (globs_of list)) c.as_slice-patterns.ensures
    ∙ ap (list_any test) c.self.view_is
