-- The lists of the ids before this index are complete, and the open one is empty.
use Rattle.std.proofs.Common.{◌≡◌, [], map, take}
use Rattle.jj_dag.specs.PackedLists.{lists_of, open_list_of}
use Rattle.jj_program.specs.GraphCommand.{graph_of}
use Rattle.jj_program.specs.GraphViews.{listed_by}
use Rattle.jj_program.specs.Parts.{id_of}
use Rattle.jj_program.proofs.listed_graph.numbered_lists.Given as goal

abbrev pub invariant-loop-number : goal.invariant-loop-number
invariant-loop-number l = record {
  lists : map (map (id_of l.numbering.ids.items)) (lists_of l.lists) ≡ map (graph_of (listed_by l.edges)) (take l.number l.numbering.ids.items);
  open_list : open_list_of l.lists ≡ [];
}
