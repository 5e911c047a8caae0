-- No field so far is a dash.
use Rattle.std.proofs.Common.{◌≡◌, ◌<◌, ℕ, [], map, false, get_or}
use Rattle.jj_program.specs.Forms.{is_dash}
use Rattle.jj_program.proofs.forms.dash_index.Given as goal

abbrev pub invariant-loop-field : goal.invariant-loop-field
invariant-loop-field l = record {
  index : l.index ≡ l.field-index;
  none : (k : ℕ) → k < l.field-index → is_dash (get_or (map (λ field. field.now) l.fields) k []) ≡ false;
}
