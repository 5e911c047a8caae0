use Rattle.std.proofs.Common.{◌≡◌, ◌<◌, length, map, [], true, false, sym, ◌∙◌, arith}
use Rattle.std.specs.List.{position_or_len}
use Rattle.std.proofs.lemmas.List.{length-map}
use Rattle.std.proofs.lemmas.List.Sums.{position_or_len_is}
use borrow.Author.Count.{below_more}
use Rattle.jj_program.specs.Forms.{is_dash}
use Rattle.jj_program.proofs.Dashes.{counted_within, tested}
use Rattle.jj_program.proofs.forms.dash_index.Goals as goal

pub loop-field-preserved : goal.loop-field-preserved
loop-field-preserved c =
    let i = c.loop-field.field-index in
    let within : i < length c.args.fields.now = omega arith in
    record {
      index = omega (arith, c.loop-field.invariant.index);
      none = below_more _ _ c.loop-field.invariant.none (tested c.args.fields.now i _ within false (sym c.if-is_dash.false ∙ c.is_dash.ensures));
    }

pub returns-then-is_dash : goal.returns-then-is_dash
returns-then-is_dash c =
    let i = c.loop-field.field-index in
    let within : i < length c.args.fields.now = omega arith in
    let here = tested c.args.fields.now i _ within true (sym c.if-is_dash.true ∙ c.is_dash.ensures) in
    let texts = map (λ field. field.now) c.args.fields.now in
    let all : length texts ≡ length c.args.fields.now = length-map c.args.fields.now (λ field. field.now) in
    let index : position_or_len is_dash texts ≡ i = position_or_len_is is_dash texts i [] (omega (arith, all)) c.loop-field.invariant.none (λ h. here) in
    record {
      index = c.loop-field.invariant.index ∙ sym index;
      within = λ one. omega (arith, within, c.loop-field.invariant.index);
    }

pub returns : goal.returns
returns c =
    let texts = map (λ field. field.now) c.args.fields.now in
    let all : length texts ≡ length c.args.fields.now = length-map c.args.fields.now (λ field. field.now) in
    let i = c.loop-field.field-index in
    let index : position_or_len is_dash texts ≡ i = position_or_len_is is_dash texts i [] (omega (arith, all)) c.loop-field.invariant.none (λ h. absurd (omega (arith, all))) in
    record {
      index = c.loop-field.invariant.index ∙ sym index;
      within = λ one. let w = counted_within is_dash texts one in omega (arith, w, all, index, c.loop-field.invariant.index);
    }
