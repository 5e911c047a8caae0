use Rattle.std.proofs.Common.{rules, ◌≡◌, ◌∙◌, ap, sym, subst, eqb, not, refl}
use Rattle.std.specs.List.{filter}
use Rattle.std.specs.BinaryHeap.{heap_items}
use Rattle.jj_dag.specs.ArrayGraphs.{graph_of}
use Rattle.jj_dag.specs.CommonNodes.{AreClosestCommon}
use Rattle.jj_dag.specs.Frontiers.{AreRanked}
use Rattle.jj_dag.specs.NodeStates.{state_at}
use Rattle.jj_dag.specs.NumberSets.{entries_of}
use Rattle.jj_dag.specs.Ranks.{rank_in}
use Rattle.jj_dag.proofs.Errors.{if_ok}
use Rattle.jj_dag.proofs.Plain.{nothing}
use Rattle.jj_dag.proofs.RankedSearches.{all_ranked, searching_sets}
use Rattle.jj_dag.proofs.ranked_common.ranked_closest_in.Goals as goal

pub search-requires-clause-ranked : goal.search-requires-clause-ranked
search-requires-clause-ranked c =
    let rank = rank_in c.args.ranks.now in
    let empty : AreRanked rank (heap_items c.new-frontier.result.pending) = subst (AreRanked rank) (sym c.new-frontier.ensures.pending) (λ entry h. absurd (nothing entry h)) in
    all_ranked rank c.args.set2.now c.in_ok-relax_all-2.ensures.relaxed (all_ranked rank c.args.set1.now c.in_ok-relax_all.ensures.relaxed empty)

pub returns : goal.returns
returns c = if_ok c.closest_of.result c.closest_of.ensures (λ closest same.
    let g = graph_of c.args.graph.now in
    let set1 = c.args.set1.now in
    let set2 = c.args.set2.now in
    let find = state_at eqb (entries_of c.search.new.known) in
    let listed : c.deref.result.now ≡ c.in_ok-common.common.items = search rules in
    let start = searching_sets g (rank_in c.args.ranks.now) set1 set2 c.new-frontier.ensures.pending (λ i. rw c.requires.none_known refl) c.in_ok-relax_all.ensures.relaxed c.in_ok-relax_all-2.ensures.relaxed in
    subst (AreClosestCommon g set1 set2) (sym (same ∙ ap (filter (λ node. not (find node).sides.below)) listed)) (c.in_ok-common.ensures set1 set2 start))
