-- Strings are equal if and only if their components are.
use Rattle.std.proofs.Common.{◌≡◌, ℕ, List, sym, ap, ◌∙◌}
use Rattle.std.specs.Bool.{one_answer}
use Rattle.std.specs.Str.{bytes_eq}
use Rattle.std.proofs.lemmas.Slice.Eq.{bytes_eq-Decides}
use Rattle.jj_paths.specs.Paths.{components, path_string}
use Rattle.jj_paths.specs.Orders.{path_eq, path_eq-Decides}
use Rattle.jj_paths.proofs.PathStrings.{path_string-components}

pub bytes_eq-components : (s t : List ℕ) → bytes_eq s t ≡ path_eq (components s) (components t)
bytes_eq-components s t =
    let paths = path_eq-Decides (components s) (components t) in
    one_answer (bytes_eq s t) (path_eq (components s) (components t)) (bytes_eq-Decides s t) (
      (λ e. sym (path_string-components s) ∙ ap path_string (paths.0 e) ∙ path_string-components t),
      λ e. paths.1 (ap components e),
    )
