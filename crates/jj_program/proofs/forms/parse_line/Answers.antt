use Rattle.std.proofs.Common.{◌≡◌, ◌∙◌, ◌+◌, ◌-◌, ℕ, List, Result, map, take, drop, length, sym, ap, subst, arith, length-drop}
use Rattle.std.specs.List.{after_first, before_first, position_or_len}
use Rattle.std.proofs.lemmas.List.{take-map, drop-map, take_all}
use Rattle.jj_program.specs.declared.fault.LineFault.{LineFault}
use Rattle.jj_program.specs.declared.forms.Shape.{Shape}
use Rattle.jj_program.specs.Forms.{first_fields, is_dash, second_fields, values_at}
use Rattle.jj_program.specs.Lines.{result_and_then, Agrees, Text, texts_of}
use Rattle.jj_program.proofs.ParsedForms.{both}
use Rattle.jj_program.proofs.forms.parse_line.Goals as goal

pub returns-in-Dashed : goal.returns-in-Dashed
returns-in-Dashed g c =
    let fields : List Text = c.in_ok-action.fields.now in
    let texts = texts_of fields in
    let shape = c.in_ok-action.shape in
    let index = c.dash_index-index.result in
    let is : index ≡ position_or_len is_dash texts = c.dash_index-index.ensures.index in
    let after : List Text = take (length fields - (index + 1)) (drop (index + 1) fields) in
    let whole : after ≡ drop (index + 1) fields = take_all (length fields - (index + 1)) (drop (index + 1) fields) (omega (arith, length-drop (index + 1) fields)) in
    let firsts : texts_of (take index fields) ≡ before_first is_dash texts = sym (take-map (λ (field : Text). field.now) index fields) ∙ ap (λ n. take n texts) is in
    let seconds : texts_of after ≡ after_first is_dash texts = ap texts_of whole ∙ sym (drop-map (λ (field : Text). field.now) (index + 1) fields) ∙ ap (λ n. drop (n + 1) texts) is in
    let values : List (List ℕ) → List (List ℕ) → Result (g.row.A.Denot × List g.F.Field.Value × List g.G.Field.Value) LineFault =
    λ xs ys. both c.in_ok-action.action (values_at g.F.Field.kind xs) (values_at g.G.Field.kind ys) in
    let split : values (texts_of (take index fields)) (texts_of after) ≡ values (first_fields shape texts) (second_fields shape texts) =
    ap (λ xs. values xs (texts_of after)) firsts ∙ ap (values (before_first is_dash texts)) seconds ∙ sym (ap (λ s. values (first_fields s texts) (second_fields s texts)) c.in-Dashed.is) in
    let parsed = ap (λ (r : Result (g.row.A.Denot × Shape × List (List ℕ)) LineFault). result_and_then r (λ line. both line.0 (values_at g.F.Field.kind (first_fields line.1 line.2)) (values_at g.G.Field.kind (second_fields line.1 line.2)))) c.in_ok-action.ensures.parsed in
    subst (λ (expected : Result (g.row.A.Denot × List g.F.Field.Value × List g.G.Field.Value) LineFault). Agrees c.parse_both-in-Dashed.result (λ action. (action, map g.F.Field.value c.parse_both-in-Dashed.new.values.firsts.items, map g.G.Field.value c.parse_both-in-Dashed.new.values.seconds.items)) expected)
    (split ∙ sym parsed) c.parse_both-in-Dashed.ensures
