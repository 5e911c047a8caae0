use Rattle.std.proofs.Common.{rules, of_calls, ◌≡◌, refl, subst, sym, map}
use Rattle.std.proofs.lemmas.Fn.{always_returns_same}
use Rattle.std.proofs.lemmas.List.{map-id}
use Rattle.jj_dag.specs.CommonNodes.{AreClosestCommon, HasNoCommonCycle}
use Rattle.jj_dag.proofs.Errors.{node_says}
use Rattle.jj_dag.proofs.SortedResults.{closest_permuted, closest_rising}
use Rattle.jj_dag.specs.ArrayGraphs.{graph_of}
use Rattle.jj_dag.proofs.ArrayGraphs.{copied_nodes, implements_oks, model_of, no_error}
use Rattle.jj_dag.proofs.array_graph.ArrayGraph.closest_common_nodes.Goals as goal

pub closest_common_nodes_in-found-requires-clause-graph : goal.closest_common_nodes_in-found-requires-clause-graph
closest_common_nodes_in-found-requires-clause-graph c = record {
  id_fn = search rules;
  neighbors_fn = search (rules, of_calls);
  lists = always_returns_same _ _ _ (λ a r f h. (first_of (search rules, search (rules, of_calls, h)), search (rules, of_calls, h)));
}

pub unreachable-requires : goal.unreachable-requires
unreachable-requires c =
    let k = node_says _ c.in-Err.error c.in-Node.field-0 c.in-Node.is c.in-Err.ensures.error in
    no_error (graph_of c.args.self.now) _ _ (λ a r f h. (search (rules, of_calls, h), search (rules, of_calls, h))) k.node c.in-Node.field-0 k.fails

pub returns-in-Ok-clause-closest : goal.returns-in-Ok-clause-closest
returns-in-Ok-clause-closest c acyclic =
    let graph = graph_of c.args.self.now in
    let p = c.in-Ok.ensures.closest in
    let first : map (λ x. x) p.set1 ≡ c.args.set1.now = copied_nodes c.copied.result p.set1 c.args.set1.now (search (rules, c.copied.ensures, c.iter.ensures)) p.yielded1 in
    let second : map (λ x. x) p.set2 ≡ c.args.set2.now = copied_nodes c.copied-2.result p.set2 c.args.set2.now (search (rules, c.copied-2.ensures, c.iter-2.ensures)) p.yielded2 in
    let first_acyclic = subst (λ set. HasNoCommonCycle graph set (map (λ x. x) p.set2)) (sym first) (subst (λ set. HasNoCommonCycle graph c.args.set1.now set) (sym second) acyclic) in
    let k = p.holds (model_of graph)
    (implements_oks graph _ _ _ (λ x i h. search (rules, of_calls, h.says.met, h.shows)) _ (λ a r f h. (search (rules, of_calls, h), search (rules, of_calls, h))))
    (λ a h. refl) (λ a h. refl) first_acyclic in
    let of_sets : AreClosestCommon graph c.args.set1.now c.args.set2.now c.in-Ok.common.items =
    subst (λ set. AreClosestCommon graph c.args.set1.now set c.in-Ok.common.items) second
    (subst (λ set. AreClosestCommon graph set (map (λ x. x) p.set2) c.in-Ok.common.items) first
    (subst (λ nodes. AreClosestCommon graph (map (λ x. x) p.set1) (map (λ x. x) p.set2) nodes) (map-id c.in-Ok.common.items) k)) in
    closest_permuted graph c.args.set1.now c.args.set2.now c.in-Ok.common.items c.sort_unstable.new.self.items c.sort_unstable.ensures.permutation of_sets

pub returns-in-Ok-clause-ascending : goal.returns-in-Ok-clause-ascending
returns-in-Ok-clause-ascending c acyclic =
    closest_rising (graph_of c.args.self.now) c.args.set1.now c.args.set2.now c.sort_unstable.new.self.items c.sort_unstable.ensures.sorted (returns-in-Ok-clause-closest c acyclic)
