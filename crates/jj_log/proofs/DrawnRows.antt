-- One more row of a drawing.
use Rattle.std.proofs.Common.{◌≡◌, ◌∙◌, ℕ, List, [], ◌∷◌, ◌++◌, refl, sym, ap, append_assoc, append-nil}
use Rattle.jj_log.specs.Drawing.{AreStyled, StartsWithLine, styled_line_of_row}
use Rattle.jj_log.specs.declared.layout.Row.{Row}
use Rattle.jj_log.specs.declared.style.Style.{Style}

pub more_drawn : (style : Style) (label : ℕ → List ℕ) (rows : List Row) (row : Row) (old new : List ℕ) → AreStyled style label rows old → StartsWithLine old new (styled_line_of_row style row (label row.node)) → AreStyled style label (rows ++ row ∷ []) new
more_drawn style label [] row old new none (below, is) =
    let line = styled_line_of_row style row (label row.node) in
    (below, [], is ∙ ap (λ l. l ++ line ++ below) none ∙ sym (append-nil (line ++ below)), refl)
more_drawn style label (r ∷ rows) row old new (below, later, is, rest) (more, added) =
    let line = styled_line_of_row style row (label row.node) in
    let first = styled_line_of_row style r (label r.node) in
    let whole : new ≡ first ++ below ++ (later ++ line ++ more) =
    added ∙ ap (λ l. l ++ line ++ more) is ∙ append_assoc (first ++ below ++ later) line more ∙ append_assoc (first ++ below) later (line ++ more) ∙ ap (λ l. first ++ below ++ l) (sym (append_assoc later line more)) in
    (below, later ++ line ++ more, whole, more_drawn style label rows row later (later ++ line ++ more) rest (more, refl))
