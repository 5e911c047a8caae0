-- The lists so far.
use Rattle.std.proofs.Common.{◌≡◌, [], map, take}
use Rattle.jj_dag.specs.PackedLists.{lists_of, open_list_of}
use Rattle.jj_dag.proofs.array_graph.ArrayGraph.from_lists.Given as goal

abbrev pub invariant-loop-list : goal.invariant-loop-list
invariant-loop-list l = (lists_of l.packed ≡ map (λ list. list.items) (take l.list-index l.lists)) × (open_list_of l.packed ≡ [])
