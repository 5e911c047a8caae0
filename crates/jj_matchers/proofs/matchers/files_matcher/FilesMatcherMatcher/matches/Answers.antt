use Rattle.std.proofs.Common.{Some, None, sym, ap, ◌∙◌}
use Rattle.jj_paths.specs.Names.{path_of}
use Rattle.jj_matchers.specs.PathLists.{is_listed}
use Rattle.jj_matchers.proofs.Marks.{is_listed-marked, marked_at}
use Rattle.jj_matchers.proofs.matchers.files_matcher.FilesMatcherMatcher.matches.Goals as goal

pub returns-in-Some : goal.returns-in-Some
returns-in-Some c =
    let path = path_of c.args.file in
    c.value.ensures
    ∙ sym (is_listed-marked c.self.inside.tree path ∙ marked_at c.self.inside.tree path (Some c.in-Some.node.now) (sym c.in-Some.ensures))
    ∙ ap (λ wanted. is_listed wanted path) c.self.view_is

pub returns-in-None : goal.returns-in-None
returns-in-None c =
    let path = path_of c.args.file in
    sym (is_listed-marked c.self.inside.tree path ∙ marked_at c.self.inside.tree path None (sym c.in-None.ensures)) ∙ ap (λ wanted. is_listed wanted path) c.self.view_is
