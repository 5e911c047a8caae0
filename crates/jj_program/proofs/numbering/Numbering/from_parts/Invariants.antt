-- The list has the ids below this one.
use Rattle.jj_program.proofs.Numberings.{AreBelow}
use Rattle.jj_program.proofs.numbering.Numbering.from_parts.Given as goal

abbrev pub invariant-loop-id : goal.invariant-loop-id
invariant-loop-id l = AreBelow l.ids.items l.id
