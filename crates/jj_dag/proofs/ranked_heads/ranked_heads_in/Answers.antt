use Rattle.std.proofs.Common.{rules, arith, ◌≡◌, ◌∙◌, [], true, false, eqb, subst, sym}
use Rattle.std.specs.Bool.{MatchBool}
use Rattle.std.specs.List.Sorted.{IsPermutation}
use Rattle.std.specs.Set.{is_member}
use Rattle.std.specs.Prelude.{◌∷◌}
use Rattle.std.proofs.lemmas.Grind.{common_steps}
use Rattle.jj_dag.specs.ArrayGraphs.{graph_of}
use Rattle.jj_dag.specs.NumberSets.{keys_of}
use Rattle.jj_dag.specs.PrunedSearches.{VisitsList}
use Rattle.jj_dag.specs.Ranks.{rank_in}
use Rattle.jj_dag.proofs.Plain.{un_not_false}
use Rattle.jj_dag.proofs.PrunedSearches.{IsPruned, pruned_again, pruned_end, pruned_start, pruned_visited}
use Rattle.jj_dag.proofs.ranked_heads.ranked_heads_in.Goals as goal

pub loop-node-init : goal.loop-node-init
loop-node-init c =
    pruned_start (graph_of c.args.graph.now) (rank_in c.args.ranks.now) c.least_rank-least.result c.args.starts.now (keys_of c.insert_all.new.set) (keys_of c.args.visited.now) c.in_ok-pending.pending.items
    c.in_ok-insert_all.ensures c.requires.none_visited c.in_ok-pending.ensures.items

pub loop-node-preserved-in-Continue-branch-4 : goal.loop-node-preserved-in-Continue-branch-4
loop-node-preserved-in-Continue-branch-4 c =
    let g = graph_of c.args.graph.now in
    let rank = rank_in c.args.ranks.now in
    let least = c.least_rank-least.result in
    let visits : VisitsList rank least (g c.in-Some.node) (keys_of c.loop-node.heads) (keys_of c.visit_neighbors.new.heads) c.pop.new.self.items c.visit_neighbors.new.pending.items =
    subst (λ l. VisitsList rank least l (keys_of c.loop-node.heads) (keys_of c.visit_neighbors.new.heads) c.pop.new.self.items c.visit_neighbors.new.pending.items) c.neighbors_of-neighbors.ensures c.in_ok-visit_neighbors.ensures in
    pruned_visited g rank least c.args.starts.now (keys_of c.loop-node.heads) (keys_of c.loop-node.visited) c.loop-node.pending.items c.pop.new.self.items c.in-Some.node c.loop-node.invariant c.in-Some.ensures.items
    (keys_of c.insert.new.self) (keys_of c.visit_neighbors.new.heads) c.visit_neighbors.new.pending.items c.in_ok-insert.ensures.updates visits

pub loop-node-preserved : goal.loop-node-preserved
loop-node-preserved c =
    let keys = keys_of c.loop-node.visited in
    let node = c.in-Some.node in
    let told : c.in_ok-insert.field-0 ≡ false = search rules in
    let before : is_member eqb keys node ≡ true = un_not_false (is_member eqb keys node) (sym told ∙ c.in_ok-insert.ensures.added) in
    let kept : keys_of c.insert.new.self ≡ keys = subst (λ b. MatchBool b (IsPermutation (node ∷ keys) (keys_of c.insert.new.self)) (keys_of c.insert.new.self ≡ keys)) told c.in_ok-insert.ensures.keys in
    pruned_again (graph_of c.args.graph.now) (rank_in c.args.ranks.now) c.least_rank-least.result c.args.starts.now (keys_of c.loop-node.heads) keys c.loop-node.pending.items c.pop.new.self.items node c.loop-node.invariant c.in-Some.ensures.items
    (keys_of c.insert.new.self) kept before

pub returns : goal.returns
returns c =
    let g = graph_of c.args.graph.now in
    let rank = rank_in c.args.ranks.now in
    let least = c.least_rank-least.result in
    let empty : c.loop-node.pending.items ≡ [] = first_of (search rules, grind (arith, common_steps)) in
    let done : IsPruned g rank least c.args.starts.now (keys_of c.loop-node.heads) (keys_of c.loop-node.visited) [] =
    subst (IsPruned g rank least c.args.starts.now (keys_of c.loop-node.heads) (keys_of c.loop-node.visited)) empty c.loop-node.invariant in
    pruned_end g rank c.requires.ranks least c.args.starts.now (keys_of c.loop-node.heads) (keys_of c.loop-node.visited) done c.least_rank-least.ensures c.len-count-2.ensures.distinct
