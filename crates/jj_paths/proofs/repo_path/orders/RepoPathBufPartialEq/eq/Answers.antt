use Rattle.std.proofs.Common.{ap, ◌∙◌, string_bytes}
use Rattle.jj_paths.specs.Paths.{components}
use Rattle.jj_paths.specs.Orders.{path_eq}
use Rattle.jj_paths.proofs.StringEquality.{bytes_eq-components}
use Rattle.jj_paths.proofs.repo_path.orders.RepoPathBufPartialEq.eq.Goals as goal

pub returns : goal.returns
returns c =
    let other = string_bytes c.other.inside.value in
    c.eq.ensures
    ∙ bytes_eq-components (string_bytes c.self.inside.value) other
    ∙ ap (λ p. path_eq p (components other)) c.self.view_is
    ∙ ap (λ p. path_eq c.args.self.now p) c.other.view_is
