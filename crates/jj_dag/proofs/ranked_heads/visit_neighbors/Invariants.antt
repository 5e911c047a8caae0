-- The neighbors so far are visited.
use Rattle.std.proofs.Common.{take}
use Rattle.jj_dag.specs.NumberSets.{keys_of}
use Rattle.jj_dag.specs.PrunedSearches.{VisitsList}
use Rattle.jj_dag.specs.Ranks.{rank_in}
use Rattle.jj_dag.proofs.ranked_heads.visit_neighbors.Given as goal

abbrev pub invariant-loop-neighbor : goal.invariant-loop-neighbor
invariant-loop-neighbor l = VisitsList (rank_in l.ranks) l.least (take l.neighbor-index l.neighbors) (keys_of l.initial.heads) (keys_of l.heads) l.initial.pending.items l.pending.items
