-- The numbers of the ids before this index were appended.
use Rattle.std.proofs.Common.{◌≡◌, ◌++◌, map, take}
use Rattle.jj_dag.specs.PackedLists.{lists_of, open_list_of}
use Rattle.jj_program.specs.Parts.{id_of}
use Rattle.jj_program.proofs.listed_graph.push_numbers.Given as goal

abbrev pub invariant-loop-id : goal.invariant-loop-id
invariant-loop-id l = record {
  lists : lists_of l.lists ≡ lists_of l.fn.lists;
  open_list : map (id_of l.numbering.ids.items) (open_list_of l.lists) ≡ map (id_of l.numbering.ids.items) (open_list_of l.fn.lists) ++ take l.id-index l.ids;
}
