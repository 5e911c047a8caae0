use Rattle.std.proofs.Common.{ℕ, List, [], get_or, length, rules, subst, sym, ◌≡◌, ◌∙◌, false, inr, true≢false, refl}
use Rattle.jj_dag.specs.ArrayGraphs.{HasCycle}
use Rattle.jj_core_c.specs.ArrayGraphs.{AreBelow, IsAcyclicGraph, graph_of}
use Rattle.jj_core_c.specs.GraphBatches.{AreHeadsOfEach, AreSets}
use Rattle.jj_core_c.proofs.JoinedResults.{outcome}
use Rattle.jj_core_c.proofs.graph_batches.write_heads_each.Goals as goal

pub heads_of_each-requires-clause-acyclic : goal.heads_of_each-requires-clause-acyclic
heads_of_each-requires-clause-acyclic c =
    let valid = c.in_ok-graph.ensures in
    subst (λ (g : List (List ℕ)). HasCycle (λ n. get_or g n []) → ⊥) (sym valid.0) valid.1

pub returns : goal.returns
returns c =
    let valid = c.in_ok-graph.ensures in
    let targets = c.args.targets.now in
    let ends = c.args.ends.now in
    let nodes = c.args.nodes.now in
    let node_ends = c.args.node_ends.now in
    let below : AreBelow (length ends) nodes = search rules in
    let sets : AreSets nodes node_ends = search rules in
    let lists = c.in_ok-lists.ensures in
    let are = subst (λ (g : List (List ℕ)). AreHeadsOfEach (λ n. get_or g n []) nodes node_ends lists.0) valid.0 lists.2 in
    outcome targets ends (AreSets nodes node_ends) (AreBelow (length ends) nodes) (IsAcyclicGraph targets ends × (AreSets nodes node_ends × AreBelow (length ends) nodes))
    (AreHeadsOfEach (graph_of targets ends) nodes node_ends) lists.0 c.args.heads.now c.write_joined.new.buffer c.args.head_ends.now c.write_joined.new.ends
    (length c.args.heads.now) (length c.args.head_ends.now) ((valid.2, valid.1), (sets, below)) are c.write_joined.result (c.write_joined.ensures lists.0 lists.1)

pub returns-then-not-are_nodes : goal.returns-then-not-are_nodes
returns-then-not-are_nodes c =
    let not_below : c.are_nodes.result ≡ false = search rules in
    (inr (λ below. true≢false (sym (c.are_nodes.ensures.1 below) ∙ not_below)), refl, refl)
