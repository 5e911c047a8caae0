use Rattle.std.proofs.Common.{◌≡◌, ◌∙◌, ◌+◌, ◌++◌, ◌∷◌, [], take, ap, sym, subst}
use Rattle.std.specs.Prelude.{string_bytes}
use Rattle.std.proofs.lemmas.List.{take_more}
use Rattle.jj_log.specs.Drawing.{AreStyled, StartsWithLine, styled_line_of_row}
use Rattle.jj_log.specs.Labels.{label_of}
use Rattle.jj_log.proofs.DrawnRows.{more_drawn}
use Rattle.jj_log.proofs.log.draw_styled_rows.Goals as goal

pub loop-row-preserved : goal.loop-row-preserved
loop-row-preserved c =
    let rows = c.args.rows.now in
    let i = c.loop-row.row-index in
    let row = c.row-item.result in
    let label = label_of c.args.commits.now in
    let style = c.args.style in
    let more : take (i + 1) rows ≡ take i rows ++ row ∷ [] = take_more rows i row c.loop-row-test.true ∙ ap (λ r. take i rows ++ r ∷ []) (sym c.row-item.is) in
    subst (λ l. AreStyled style label l (string_bytes c.push_styled_row.new.drawing)) (sym more)
    (more_drawn style label (take i rows) row (string_bytes c.loop-row.drawing) (string_bytes c.push_styled_row.new.drawing) c.loop-row.invariant
    (subst (λ l. StartsWithLine (string_bytes c.loop-row.drawing) (string_bytes c.push_styled_row.new.drawing) (styled_line_of_row style row l)) c.label_at.ensures c.in_ok-push_styled_row.ensures))
