use Rattle.std.proofs.Common.{[], ◌∷◌, ◌∙◌, ap, sym, subst, lit<}
use Rattle.jj_diff_presentation.specs.Scripts.{lines_of_parts}
use Rattle.jj_diff.specs.Hunks.{AllMatch}
use Rattle.jj_diff_presentation.proofs.Parts.{diff_parts}
use Rattle.jj_diff_presentation.proofs.Scripts.{equal_sides}
use Rattle.jj_diff_presentation.proofs.unified.script.diff_lines.Goals as goal

pub returns-clause-left : goal.returns-clause-left
returns-clause-left c =
    c.in_ok-lines.ensures.left ∙ ap (lines_of_parts 0) c.deref.ensures.value
    ∙ diff_parts (c.args.left.now ∷ c.args.right.now ∷ []) c.in_ok-hunks.hunks.items 0 (lit< tt)
    c.in_ok-hunks.ensures.diff

pub returns-clause-right : goal.returns-clause-right
returns-clause-right c =
    c.in_ok-lines.ensures.right ∙ ap (lines_of_parts 1) c.deref.ensures.value
    ∙ diff_parts (c.args.left.now ∷ c.args.right.now ∷ []) c.in_ok-hunks.hunks.items 1 (lit< tt)
    c.in_ok-hunks.ensures.diff

pub returns-clause-context : goal.returns-clause-context
returns-clause-context c = λ e.
    c.in_ok-lines.ensures.context
    (subst AllMatch (sym c.deref.ensures.value)
    (c.in_ok-hunks.ensures.identity (equal_sides c.args.left.now c.args.right.now e)))
