-- The ids so far are those of the numbers before this index.
use Rattle.std.proofs.Common.{◌≡◌, map, take}
use Rattle.jj_program.specs.Parts.{id_of}
use Rattle.jj_program.proofs.numbering.Numbering.ids_of.Given as goal

abbrev pub invariant-loop-number : goal.invariant-loop-number
invariant-loop-number l = l.ids.items ≡ map (id_of l.self.ids.items) (take l.number-index l.numbers)
