use Rattle.std.proofs.Common.{◌∙◌, [], ◌∷◌, map, sym, ap}
use Rattle.std.specs.Path.{path_bytes, path_components, parent_dir}
use Rattle.std.proofs.lemmas.Result.{IfOk-weaker}
use Rattle.jj_files.specs.PathJoining.{join_all, or_dot}
use Rattle.jj_files.proofs.PathJoiningLemmas.{appended-append}
use Rattle.jj_files.proofs.file_util.path_components.relative_path.Goals as goal

pub returns : goal.returns
returns c =
    let (first, prefix, shares) = c.in-Some.ensures in
    let from_left = path_components (path_bytes c.in-Some.from_left) in
    let to_left = path_components (path_bytes c.in-Some.to_left) in
    let ups = map (λ _. parent_dir) from_left in
    let whole = c.in_ok-push_components.ensures ∙ ap (λ text. join_all text to_left) (c.in_ok-push_parents.ensures ∙ ap (λ text. join_all text ups) c.new-text.ensures)
    ∙ sym (appended-append [] ups to_left) in
    IfOk-weaker c.text_or_dot.result _ _ (λ text is. (first ∷ prefix, from_left, to_left, shares, is ∙ ap or_dot whole)) c.text_or_dot.ensures
