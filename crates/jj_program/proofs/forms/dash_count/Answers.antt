use Rattle.std.proofs.Common.{◌<◌, length, true, false, sym, ◌∙◌, arith}
use Rattle.jj_program.proofs.Dashes.{counted_more}
use Rattle.jj_program.proofs.forms.dash_count.Goals as goal
use Rattle.jj_program.proofs.forms.dash_count.Goals.{then-is_dash, else-is_dash}

pub loop-field-preserved : goal.loop-field-preserved
loop-field-preserved c =
    let i = c.loop-field.field-index in
    let within : i < length c.args.fields.now = omega arith in
    elim c.if-is_dash.branch [
      | then-is_dash w ↦ counted_more c.args.fields.now i _ within c.loop-field.dashes c.if-is_dash.dashes true c.loop-field.invariant (sym w.if-is_dash.true ∙ c.is_dash.ensures) w.dashes-is
      | else-is_dash w ↦ counted_more c.args.fields.now i _ within c.loop-field.dashes c.if-is_dash.dashes false c.loop-field.invariant (sym w.if-is_dash.false ∙ c.is_dash.ensures) (let same = w.dashes-is in omega (arith, same))
    ]
