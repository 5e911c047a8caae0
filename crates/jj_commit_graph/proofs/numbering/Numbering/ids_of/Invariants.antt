-- The ids so far are those of the numbers before this index.
use Rattle.std.proofs.Common.{◌≡◌, map, take}
use Rattle.jj_commit_graph.specs.Numberings.{id_at}
use Rattle.jj_commit_graph.proofs.numbering.Numbering.ids_of.Given as goal

abbrev pub invariant-loop-number : goal.invariant-loop-number
invariant-loop-number l = l.ids.items ≡ map (id_at l.self.ids.items) (take l.number-index l.numbers)
