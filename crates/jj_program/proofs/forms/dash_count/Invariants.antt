-- The dashes so far are counted.
use Rattle.std.proofs.Common.{◌≡◌, map, take}
use Rattle.std.specs.List.{count_by}
use Rattle.jj_program.specs.Forms.{is_dash}
use Rattle.jj_program.proofs.forms.dash_count.Given as goal

abbrev pub invariant-loop-field : goal.invariant-loop-field
invariant-loop-field l = l.dashes ≡ count_by is_dash (take l.field-index (map (λ field. field.now) l.fields))
