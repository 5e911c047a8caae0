-- The closest common nodes of the pairs before the index are joined.
use Rattle.std.proofs.Common.{ℕ, List, take}
use Rattle.std.specs.List.{AllZip, zip}
use Rattle.jj_dag.specs.ArrayGraphs.{graph_of}
use Rattle.jj_core_c.specs.ArrayGraphs.{AreAscendingCommon}
use Rattle.jj_core_c.specs.GraphBatches.{Joins}
use Rattle.jj_core_c.specs.Pieces.{pieces_of}
use Rattle.jj_core_c.proofs.graph_batches.common_of_each.Given as goal

abbrev pub invariant-loop-index : goal.invariant-loop-index
invariant-loop-index l = (found : List (List ℕ)) × Joins found l.lists × AllZip (λ (sets : List ℕ × List ℕ). AreAscendingCommon (graph_of l.graph) sets.0 sets.1) (take l.index (zip (pieces_of l.set1 l.ends1) (pieces_of l.set2 l.ends2))) found
