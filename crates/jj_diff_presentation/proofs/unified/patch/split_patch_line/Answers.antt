use Rattle.std.proofs.Common.{sym, ◌∙◌}
use Rattle.jj_diff_presentation.proofs.Applying.{patch_plain, patch_noted}
use Rattle.jj_diff_presentation.proofs.unified.patch.split_patch_line.Goals as goal

pub returns-then-not-is_note-clause-lines : goal.returns-then-not-is_note-clause-lines
returns-then-not-is_note-clause-lines c =
    patch_plain c.args.text.now c.split_first_line.result.0.now c.split_first_line.result.1.now
    c.split_first_line.ensures.lines (sym c.is_note.ensures ∙ c.if-not-is_note.true)

pub returns-clause-lines : goal.returns-clause-lines
returns-clause-lines c =
    patch_noted c.args.text.now c.split_first_line.result.0.now c.split_first_line.result.1.now
    c.split_first_line-2.result.0.now c.split_first_line-2.result.1.now
    c.split_first_line.ensures.lines c.split_first_line-2.ensures.lines
    (sym c.is_note.ensures ∙ c.if-not-is_note.false)
