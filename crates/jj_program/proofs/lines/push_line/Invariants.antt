use Rattle.std.proofs.Common.{◌≡◌, ◌++◌, ◌∷◌, map, take}
use Rattle.std.specs.Prelude.{flat_map}
use Rattle.jj_program.proofs.lines.push_line.Given as goal

abbrev pub invariant-loop-field : goal.invariant-loop-field
invariant-loop-field l = l.output.items ≡ l.initial.output.items ++ flat_map (λ field. 9 ∷ field) (map (λ field. field.now) (take l.field-index l.fields))
