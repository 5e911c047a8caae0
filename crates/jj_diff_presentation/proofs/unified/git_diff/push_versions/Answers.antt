use Rattle.std.proofs.Common.{◌≢◌, ℕ, List, subst}
use Rattle.std.specs.Prelude.{OnOk}
use Rattle.jj_diff_presentation.specs.GitDiffs.{EndsWithPatch, IsTextual, content_of}
use Rattle.jj_diff_presentation.proofs.unified.git_diff.push_versions.Goals as goal

pub returns : goal.returns
returns c =
    let text = c.push_contents.new.text.items in
    let right = content_of c.args.after in
    subst (λ (l : List ℕ). OnOk c.push_contents.result (l ≢ right → IsTextual l → IsTextual right → EndsWithPatch l right text)) c.content_of.ensures
    (subst (λ (r : List ℕ). OnOk c.push_contents.result (c.content_of.result.now ≢ r → IsTextual c.content_of.result.now → IsTextual r → EndsWithPatch c.content_of.result.now r text)) c.content_of-2.ensures
    c.push_contents.ensures)
