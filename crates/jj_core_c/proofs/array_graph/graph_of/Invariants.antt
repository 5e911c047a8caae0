-- The lists before the index are complete.
use Rattle.std.proofs.Common.{◌≡◌, [], take}
use Rattle.jj_dag.specs.PackedLists.{lists_of, open_list_of}
use Rattle.jj_core_c.specs.Pieces.{pieces_of}
use Rattle.jj_core_c.proofs.array_graph.graph_of.Given as goal

abbrev pub invariant-loop-index : goal.invariant-loop-index
invariant-loop-index l = record {
  complete : lists_of l.lists ≡ take l.index (pieces_of l.targets l.ends);
  none_open : open_list_of l.lists ≡ [];
}
