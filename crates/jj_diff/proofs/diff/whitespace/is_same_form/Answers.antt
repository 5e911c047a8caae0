use Rattle.std.proofs.Common.{ap, sym, ◌∙◌, get_or}
use Rattle.jj_diff.proofs.Whitespace.{form_head}
use Rattle.jj_diff.proofs.diff.whitespace.is_same_form.Goals as goal

pub returns-then-symbol-clause-different : goal.returns-then-symbol-clause-different
returns-then-symbol-clause-different c = λ f same.
    c.if-symbol.true (c.symbol.ensures
    ∙ sym (form_head c.args.all c.args.left.now c.loop-at.at c.loop-at-test.true (λ all. c.loop-at.invariant.word all c.loop-at-test.true))
    ∙ ap (λ ys. get_or ys 0 0) (c.loop-at.invariant.back same)
    ∙ form_head c.args.all c.args.right.now c.loop-at.other c.if-other-right.true (λ all. c.loop-at.invariant.other_word all c.if-other-right.true)
    ∙ sym c.symbol-in-loop-at.ensures)
