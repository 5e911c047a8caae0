use Rattle.std.proofs.Common.{◌∙◌, ap, map, lit<}
use Rattle.jj_diff.specs.Inputs.{side}
use Rattle.jj_diff.specs.Hunks.{row_of}
use Rattle.jj_diff_presentation.proofs.unified.words.word_diff.Goals as goal

pub returns-clause-left : goal.returns-clause-left
returns-clause-left c =
    c.in_ok-tokens.ensures.left ∙ ap (λ hs. side 0 (map row_of hs)) c.deref.ensures.value
    ∙ c.in_ok-hunks.ensures.diff.sides 0 (lit< tt)

pub returns-clause-right : goal.returns-clause-right
returns-clause-right c =
    c.in_ok-tokens.ensures.right ∙ ap (λ hs. side 1 (map row_of hs)) c.deref.ensures.value
    ∙ c.in_ok-hunks.ensures.diff.sides 1 (lit< tt)
