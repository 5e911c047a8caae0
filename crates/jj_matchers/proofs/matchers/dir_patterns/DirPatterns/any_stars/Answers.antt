use Rattle.std.proofs.Common.{◌∙◌, ap, List}
use Rattle.std.specs.List.{list_any}
use Rattle.jj_globs.specs.GlobMeaning.{GlobSpec}
use Rattle.jj_matchers.specs.Patterns.{is_stars}
use Rattle.jj_matchers.specs.LinkedPatterns.{globs_of}
use Rattle.jj_matchers.specs.declared.matchers.pattern_order.LinkedPattern.{LinkedPattern}
use Rattle.jj_matchers.proofs.LinkedPatterns.{any_globs}
use Rattle.jj_matchers.proofs.matchers.dir_patterns.DirPatterns.any_stars.Goals as goal

pub returns : goal.returns
returns c =
    let test = λ (glob : GlobSpec). is_stars glob.text in
    c.any_are_stars.ensures
    ∙ any_globs test c.as_slice.result.now
    ∙ ap (λ (list : List LinkedPattern). list_any test (globs_of list)) c.as_slice.ensures
    ∙ ap (list_any test) c.self.view_is
