use Rattle.std.proofs.Common.{sym, ap, ◌∙◌, [], ◌∷◌}
use Rattle.jj_paths.specs.Paths.{path_string}
use Rattle.jj_paths.proofs.PathStrings.{path_string-components}
use Rattle.jj_paths.proofs.repo_path.orders.RepoPathBufHash.hash.Goals as goal

pub returns : goal.returns
returns g c =
    c.hash.ensures
    ∙ ap (λ text. g.H.Hasher.write (g.H.Hasher.write c.args.state.now text) (255 ∷ [])) (sym (path_string-components _) ∙ ap path_string c.self.view_is)
