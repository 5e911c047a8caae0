-- The heads of the sets before the index are joined.
use Rattle.std.proofs.Common.{ℕ, List, take}
use Rattle.std.specs.List.{AllZip}
use Rattle.jj_dag.specs.ArrayGraphs.{graph_of}
use Rattle.jj_core_c.specs.ArrayGraphs.{AreAscendingHeads}
use Rattle.jj_core_c.specs.GraphBatches.{Joins}
use Rattle.jj_core_c.specs.Pieces.{pieces_of}
use Rattle.jj_core_c.proofs.graph_batches.heads_of_each.Given as goal

abbrev pub invariant-loop-index : goal.invariant-loop-index
invariant-loop-index l = (found : List (List ℕ)) × Joins found l.lists × AllZip (AreAscendingHeads (graph_of l.graph)) (take l.index (pieces_of l.nodes l.ends)) found
