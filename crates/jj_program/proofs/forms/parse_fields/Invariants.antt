-- The values are those of the fields so far, all of which are valid.
use Rattle.std.proofs.Common.{◌≡◌, map, take, drop}
use Rattle.std.specs.List.{list_all}
use Rattle.jj_program.specs.Lines.{texts_of}
use Rattle.jj_program.proofs.forms.parse_fields.Given as goal

abbrev pub invariant-loop-field : goal.invariant-loop-field
invariant-loop-field g l = record {
  values : map g.F.Field.value l.values.items ≡ map g.F.Field.kind.value_of (take l.field-index (texts_of l.fields));
  others : list_all g.F.Field.kind.is_one (drop l.field-index (texts_of l.fields)) ≡ list_all g.F.Field.kind.is_one (texts_of l.fields);
}
