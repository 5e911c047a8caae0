use Rattle.std.proofs.Common.{◌≡◌, ◌∙◌, ◌++◌, ℕ, List, [], ◌∷◌, Result, ap, arith, get_or, sym}
use Rattle.std.specs.Prelude.{codes, OnOk}
use Rattle.std.specs.declared.alloc.AllocError.{AllocError}
use Rattle.std.proofs.lemmas.Result.{IfOk-weaker}
use Rattle.jj_program.specs.Lines.{Text, line_text, texts_of}
use Rattle.jj_program.specs.MergeCommand.{IsMergeLine}
use Rattle.jj_program.specs.declared.merge_command.MergeForm.TheVariants.{Simplify}
use Rattle.jj_program.proofs.ShortMerges.{all_left, first_left, last_left, one_left, simplified}
use Rattle.jj_program.proofs.TextMerges.{left_bytes}
use Rattle.jj_program.proofs.merge_command.push_simplified.Goals as goal

-- the default value out of range
abbrev no_text : Text
no_text = record { ref_ptr = (0, 0); now = [] }

-- the line with the terms that are left
line_of : (result : Result (Unit {0}) AllocError) (m left : List Text) (old new : List ℕ) → texts_of left ≡ simplified (texts_of m)
    → OnOk result (new ≡ old ++ line_text (codes "terms") (texts_of left))
    → OnOk result ((answer : List ℕ) × IsMergeLine (Simplify, texts_of m) answer × (new ≡ old ++ answer))
line_of result m left old new is pushed =
    IfOk-weaker result (λ _. new ≡ old ++ line_text (codes "terms") (texts_of left))
    (λ _. (answer : List ℕ) × IsMergeLine (Simplify, texts_of m) answer × (new ≡ old ++ answer))
    (λ done written. (line_text (codes "terms") (texts_of left), ap (line_text (codes "terms")) is, written)) pushed

pub returns-in-len1 : goal.returns-in-len1
returns-in-len1 c =
    let terms = c.args.terms.now in
    line_of c.push_line.result terms terms c.args.output.now.items c.push_line.new.output.items
    (one_left terms (omega arith)) c.push_line.ensures

pub returns-then-eq : goal.returns-then-eq
returns-then-eq c =
    let terms = c.args.terms.now in
    line_of c.push_line-then-eq.result terms (get_or terms 2 no_text ∷ []) c.args.output.now.items c.push_line-then-eq.new.output.items
    (last_left terms no_text (omega arith) (sym c.eq.ensures ∙ c.if-eq.true)) c.push_line-then-eq.ensures

pub returns-then-eq-2 : goal.returns-then-eq-2
returns-then-eq-2 c =
    let terms = c.args.terms.now in
    line_of c.push_line-then-eq-2.result terms (get_or terms 0 no_text ∷ []) c.args.output.now.items c.push_line-then-eq-2.new.output.items
    (first_left terms no_text (omega arith) (sym c.eq.ensures ∙ c.if-eq.false, sym c.eq-else-eq.ensures ∙ c.if-eq-2.true)) c.push_line-then-eq-2.ensures

pub returns-else-eq-2 : goal.returns-else-eq-2
returns-else-eq-2 c =
    let terms = c.args.terms.now in
    line_of c.push_line-else-eq-2.result terms terms c.args.output.now.items c.push_line-else-eq-2.new.output.items
    (all_left terms no_text (omega arith) (sym c.eq.ensures ∙ c.if-eq.false, sym c.eq-else-eq.ensures ∙ c.if-eq-2.false)) c.push_line-else-eq-2.ensures

pub returns-in_ok-left-in_default : goal.returns-in_ok-left-in_default
returns-in_ok-left-in_default c =
    let terms = c.args.terms.now in
    line_of c.push_line-in_default.result terms c.deref.result.now c.args.output.now.items c.push_line-in_default.new.output.items
    (ap texts_of c.deref.ensures.value ∙ left_bytes terms c.in_ok-left-in_default.left.items c.in_ok-left-in_default.ensures) c.push_line-in_default.ensures
