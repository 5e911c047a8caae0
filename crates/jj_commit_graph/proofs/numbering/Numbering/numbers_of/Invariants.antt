-- The numbers so far are those of the ids before this index.
use Rattle.std.proofs.Common.{◌≡◌, ◌<◌, All, length, map, take}
use Rattle.jj_commit_graph.specs.Numberings.{id_at}
use Rattle.jj_commit_graph.proofs.numbering.Numbering.numbers_of.Given as goal

abbrev pub invariant-loop-id : goal.invariant-loop-id
invariant-loop-id l = record {
  named : map (id_at l.self.ids.items) l.numbers.items ≡ take l.id-index l.ids;
  within : All (λ number. number < length l.self.ids.items) l.numbers.items;
}
