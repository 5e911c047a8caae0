-- The search of the states of both sets.
use Rattle.std.proofs.Common.{◌+◌, ◌-◌, ◌^◌, ◌<◌, ℕ, List, eqb}
use Rattle.std.specs.BinaryHeap.{heap_items, heap_len}
use Rattle.jj_dag.specs.ArrayGraphs.{graph_of}
use Rattle.jj_dag.specs.CommonSearch.{IsStarting}
use Rattle.jj_dag.specs.Frontiers.{AreRanked, ListsOpen, model_of_pairs}
use Rattle.jj_dag.specs.NodeStates.{sides_met, state_at}
use Rattle.jj_dag.specs.NumberSets.{entries_of}
use Rattle.jj_dag.specs.Ranks.{rank_in}
use Rattle.jj_dag.proofs.RankedSearches.{IsSearchingRanked}
use Rattle.jj_dag.proofs.ranked_common.search.Given as goal

abbrev pub invariant-loop-node : goal.invariant-loop-node
invariant-loop-node l =
    let before = l.initial.frontier in
    record {
      ranked : AreRanked (rank_in l.ranks) (heap_items l.frontier.pending);
      small : sides_met (entries_of l.known) < 2 ^ 64;
      searching : (set1 set2 : List ℕ) → IsStarting (model_of_pairs (graph_of l.graph)) set1 set2 (heap_items before.pending) (state_at eqb (entries_of l.initial.known))
          → IsSearchingRanked (graph_of l.graph) (rank_in l.ranks) set1 set2 (heap_items l.frontier.pending) l.common.items (state_at eqb (entries_of l.known))
          × ListsOpen (state_at eqb (entries_of l.known)) l.frontier.left.items l.frontier.right.items;
    }

abbrev pub decreases-loop-node : goal.decreases-loop-node
decreases-loop-node l = (2 ^ 64 - sides_met (entries_of l.known)) + heap_len l.frontier.pending
