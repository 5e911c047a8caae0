use Rattle.std.proofs.Common.{ℕ, List, [], get_or, length, rules, subst, sym, ◌≡◌, ◌∙◌, false, inr, true≢false, refl}
use Rattle.jj_dag.specs.ArrayGraphs.{HasCycle}
use Rattle.jj_core_c.specs.ArrayGraphs.{AreBelow, IsAcyclicGraph, graph_of}
use Rattle.jj_core_c.specs.GraphBatches.{AreCommonOfEach, ArePairs}
use Rattle.jj_core_c.proofs.JoinedResults.{outcome}
use Rattle.jj_core_c.proofs.graph_batches.write_common_each.Goals as goal

pub common_of_each-requires-clause-acyclic : goal.common_of_each-requires-clause-acyclic
common_of_each-requires-clause-acyclic c =
    let valid = c.in_ok-graph.ensures in
    subst (λ (g : List (List ℕ)). HasCycle (λ n. get_or g n []) → ⊥) (sym valid.0) valid.1

pub returns : goal.returns
returns c =
    let valid = c.in_ok-graph.ensures in
    let targets = c.args.targets.now in
    let ends = c.args.ends.now in
    let set1 = c.args.set1.now in
    let ends1 = c.args.ends1.now in
    let set2 = c.args.set2.now in
    let ends2 = c.args.ends2.now in
    let below : AreBelow (length ends) set1 × AreBelow (length ends) set2 = search rules in
    let pairs : ArePairs set1 ends1 set2 ends2 = search rules in
    let lists = c.in_ok-lists.ensures in
    let are = subst (λ (g : List (List ℕ)). AreCommonOfEach (λ n. get_or g n []) set1 ends1 set2 ends2 lists.0) valid.0 lists.2 in
    outcome targets ends (ArePairs set1 ends1 set2 ends2) (AreBelow (length ends) set1 × AreBelow (length ends) set2)
    (IsAcyclicGraph targets ends × (ArePairs set1 ends1 set2 ends2 × (AreBelow (length ends) set1 × AreBelow (length ends) set2)))
    (AreCommonOfEach (graph_of targets ends) set1 ends1 set2 ends2) lists.0 c.args.common.now c.write_joined.new.buffer c.args.common_ends.now c.write_joined.new.ends
    (length c.args.common.now) (length c.args.common_ends.now) ((valid.2, valid.1), (pairs, below)) are c.write_joined.result (c.write_joined.ensures lists.0 lists.1)

pub returns-then-not-are_all_nodes : goal.returns-then-not-are_all_nodes
returns-then-not-are_all_nodes c =
    let not_below : c.are_all_nodes.result ≡ false = search rules in
    (inr (λ below. true≢false (sym (c.are_all_nodes.ensures.1 below) ∙ not_below)), refl, refl)
