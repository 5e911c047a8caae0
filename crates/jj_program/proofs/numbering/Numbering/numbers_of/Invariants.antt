-- The numbers so far are those of the ids before this index.
use Rattle.std.proofs.Common.{◌≡◌, map, take}
use Rattle.jj_program.specs.Parts.{id_of}
use Rattle.jj_program.proofs.numbering.Numbering.numbers_of.Given as goal

abbrev pub invariant-loop-id : goal.invariant-loop-id
invariant-loop-id l = map (id_of l.self.ids.items) l.numbers.items ≡ take l.id-index l.ids
