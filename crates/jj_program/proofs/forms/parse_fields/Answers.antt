use Rattle.std.proofs.Common.{◌+◌, ◌<◌, ◌∙◌, sym, ap, length, arith, drop, get_or, List, []}
use Rattle.std.specs.Prelude.{◌&&◌}
use Rattle.std.specs.List.{list_all}
use Rattle.std.proofs.lemmas.Result.{err_from_is_err_and}
use Rattle.jj_program.specs.Lines.{Text, texts_of}
use Rattle.jj_program.proofs.Steps.{drop_map_next}
use Rattle.jj_program.proofs.FieldValues.{field-ok, field-fault, values_more}
use Rattle.jj_program.proofs.forms.parse_fields.Goals as goal

pub returns-in_err-value : goal.returns-in_err-value
returns-in_err-value g c =
    let is_one = g.F.Field.kind.is_one in
    let fields : List Text = c.args.fields.now in
    let i = c.loop-field.field-index in
    let none : Text = record { ref_ptr = (0, 0); now = [] } in
    let next = ap (list_all is_one) (drop_map_next (λ field. field.now) fields i none (omega arith)) in
    let p = err_from_is_err_and c.from_residual.result c.from_residual.ensures.1 in
    rw (p.1, p.2) (field-fault g.F.Field.kind c.in_err-value.field-0.0 (get_or fields i none).now (texts_of fields) (list_all is_one (drop (i + 1) (texts_of fields)))
    (sym c.loop-field.invariant.others ∙ next) c.in_err-value.ensures)

pub loop-field-preserved : goal.loop-field-preserved
loop-field-preserved g c =
    let is_one = g.F.Field.kind.is_one in
    let fields : List Text = c.args.fields.now in
    let i = c.loop-field.field-index in
    let within : i < length fields = omega arith in
    let has = field-ok g.F.Field.kind _ _ c.in_ok-value.ensures in
    let next = ap (list_all is_one) (drop_map_next (λ field. field.now) fields i _ within) in
    record {
      values = values_more g.F.Field.kind g.F.Field.value (λ field. field.now) _ _ c.in_ok-value.value fields i _ within c.loop-field.invariant.values c.in_ok-push.ensures.items has;
      others = sym (ap (λ b. b && list_all is_one (drop (i + 1) (texts_of fields))) has.passes) ∙ sym next ∙ c.loop-field.invariant.others;
    }
