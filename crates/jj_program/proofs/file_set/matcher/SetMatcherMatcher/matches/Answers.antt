use Rattle.std.proofs.Common.{◌∙◌, ap, false}
use Rattle.jj_paths.specs.Names.{path_of}
use Rattle.jj_program.specs.SetCode.{pass_over}
use Rattle.jj_program.proofs.file_set.matcher.SetMatcherMatcher.matches.Goals as goal

pub returns : goal.returns
returns c =
    let path = path_of c.args.file in
    c.evaluate.ensures
    ∙ ap (λ l. (pass_over path l (0, false)).1) c.deref.ensures.value
    ∙ c.args.self.now.decided path
