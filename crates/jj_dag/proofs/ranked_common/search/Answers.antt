use Rattle.std.proofs.Common.{arith, ◌≡◌, subst, eqb, ℕ, map}
use Rattle.std.specs.BinaryHeap.{heap_items}
use Rattle.jj_dag.specs.ArrayGraphs.{graph_of}
use Rattle.jj_dag.specs.NodeStates.{RelaxesNodes, propagated, state_at}
use Rattle.jj_dag.specs.NumberSets.{entries_of}
use Rattle.jj_dag.specs.Ranks.{rank_in}
use Rattle.jj_dag.proofs.RankedSearches.{all_ranked, left_ranked, listed_taken, searched_ranked, searching_more, searching_start, was_pending}
use Rattle.jj_dag.proofs.ranked_common.search.Goals as goal

pub loop-node-init : goal.loop-node-init
loop-node-init c = record {
  ranked = c.requires.ranked;
  small = c.requires.small;
  searching = λ set1 set2 start. (
    searching_start (graph_of c.args.graph.now) (rank_in c.args.ranks.now) c.requires.ranks set1 set2 (heap_items c.args.frontier.now.pending) c.new-common.result.items (state_at eqb (entries_of c.args.known.now)) c.new-common.ensures.items start,
    c.requires.listed,
  );
}

pub loop-node-preserved : goal.loop-node-preserved
loop-node-preserved c =
    let g = graph_of c.args.graph.now in
    let rank = rank_in c.args.ranks.now in
    let before = c.loop-node.invariant in
    let node = c.in-Some.node in
    let sides = c.take_queued-sides.result in
    let (top, popped, highest) = c.in-Some.ensures.some in
    let done = c.in_ok-relax_all.ensures in
    let find = state_at eqb (entries_of c.loop-node.known) in
    let find2 = state_at eqb (entries_of c.take_queued-sides.new.known) in
    let find3 = state_at eqb (entries_of c.relax_all.new.known) in
    let pending2 = heap_items c.pop.new.self.pending in
    let pending3 = heap_items c.relax_all.new.self.pending in
    let relaxes : RelaxesNodes eqb (λ (entry : ℕ × ℕ) n. n ≡ entry.1) (propagated sides) find2 pending2 (map (λ n. (rank n, n)) (g node)) find3 pending3 =
    subst (λ l. RelaxesNodes eqb (λ (entry : ℕ × ℕ) n. n ≡ entry.1) (propagated sides) find2 pending2 (map (λ n. (rank n, n)) l) find3 pending3) c.neighbors_of-neighbors.ensures
    (subst (λ added. RelaxesNodes eqb (λ (entry : ℕ × ℕ) n. n ≡ entry.1) added find2 pending2 (map (λ n. (rank n, n)) c.neighbors_of-neighbors.result.now) find3 pending3) c.propagated.ensures done.relaxed) in
    record {
      ranked = all_ranked rank (g node) relaxes (left_ranked g rank c.requires.ranks (top, node) pending2 before.ranked popped);
      small = done.small (omega (arith, c.take_queued-sides.ensures.side_count, before.small));
      searching = λ set1 set2 start.
          let (searching, listed) = before.searching set1 set2 start in
          let waits = was_pending g rank c.requires.ranks (top, node) pending2 searching popped in (
            searching_more g rank c.requires.ranks find2 find3 (top, node) sides pending2 pending3 c.keep_common.new.common.items searching before.ranked popped highest c.take_queued-sides.ensures.sides c.take_queued-sides.ensures.known
                relaxes c.in_ok-keep_common.ensures,
            done.listed (listed_taken find find2 node c.pop.new.self.left.items c.pop.new.self.right.items (c.take_queued-sides.ensures.known waits) (c.in-Some.ensures.listed listed)),
          );
    }

pub returns : goal.returns
returns c = λ set1 set2 start.
    let (searching, listed) = c.loop-node.invariant.searching set1 set2 start in
    searched_ranked (graph_of c.args.graph.now) (rank_in c.args.ranks.now) c.requires.ranks searching (c.in_default.ensures.none listed)
