-- The name and the numbers so far are written.
use Rattle.std.proofs.Common.{◌≡◌, ◌++◌, ◌∷◌, map, take}
use Rattle.std.specs.Prelude.{flat_map, string_bytes}
use Rattle.std.specs.Fmt.{decimal}
use Rattle.jj_program.proofs.graph_command.push_numbers.Given as goal

abbrev pub invariant-loop-number : goal.invariant-loop-number
invariant-loop-number l = string_bytes l.output ≡ string_bytes l.fn.output ++ (l.name ++ flat_map (λ field. 9 ∷ field) (map decimal (take l.number-index l.numbers)))
