-- The names of the first commits have their indices.
use Rattle.std.proofs.Common.{take}
use Rattle.jj_log.specs.Numbering.{Interns, names_of}
use Rattle.jj_log.proofs.numbering.number_names.Given as goal

abbrev pub invariant-loop-index : goal.invariant-loop-index
invariant-loop-index l = Interns (names_of (take l.index l.commits)) l.numbers
