use Rattle.std.proofs.Common.{◌∙◌, ap}
use Rattle.std.specs.Path.{path_buf_bytes}
use Rattle.jj_files.proofs.PathJoiningLemmas.{or_dot-empty, or_dot-same}
use Rattle.jj_files.proofs.fs_text.text_or_dot.Goals as goal
use Rattle.jj_files.proofs.fs_text.text_or_dot.Goals.{then-is_empty+in_ok-push, else-is_empty}

pub returns : goal.returns
returns c =
    let shown = c.as_os_str.ensures ∙ c.as_path.ensures in
    c.into_string.ensures
    ∙ elim c.if-is_empty.branch [
      | then-is_empty+in_ok-push w ↦ ap path_buf_bytes w.path-is ∙ w.in_ok-push.ensures.ok ∙ or_dot-empty _ _ shown w.if-is_empty.ensures
      | else-is_empty w ↦ ap path_buf_bytes w.path-is ∙ or_dot-same _ _ shown w.if-is_empty.ensures
    ]
