use Rattle.std.proofs.Common.{rules, of_calls, ◌≡◌, refl, subst, map, Ok, ⊎_elim}
use Rattle.std.proofs.lemmas.Fn.{always_returns_same}
use Rattle.std.proofs.lemmas.List.{map-id}
use Rattle.jj_dag.specs.Graph.{IsAcyclicFrom, IsGreatestTopologicalOrder, ReachesCycle}
use Rattle.jj_dag.proofs.Errors.{node_says}
use Rattle.jj_dag.proofs.GreatestOrders.{greatest_numbers}
use Rattle.jj_dag.specs.ArrayGraphs.{graph_of}
use Rattle.jj_dag.proofs.ArrayGraphs.{implements_items, model_of, no_beginning, sound_nodes}
use Rattle.jj_dag.proofs.array_graph.ArrayGraph.greatest_order.Goals as goal

pub topo_order_reverse_ord_in-order-requires-clause-graph : goal.topo_order_reverse_ord_in-order-requires-clause-graph
topo_order_reverse_ord_in-order-requires-clause-graph c = record {
  id_fn = search rules;
  neighbors_fn = search (rules, of_calls);
  lists = always_returns_same _ _ _ (λ a r f h. (λ it b. (search rules, search rules), search (rules, of_calls, h)));
}

pub unreachable-requires : goal.unreachable-requires
unreachable-requires c =
    let graph = graph_of c.args.self.now in
    ⊎_elim
    (λ input. ⊎_elim (λ begun. no_beginning _ (map (λ x. Ok x) begun.0) c.in-Node.field-0 begun.1)
    (λ failed. no_beginning failed.fails.0 (map (λ x. Ok x) failed.fails.2.0) c.in-Node.field-0 failed.fails.2.1) input)
    (λ found.
    let k = found.holds in
    let starts : map (λ x. x) k.starts ≡ c.args.starts.now = sound_nodes _ k.starts k.yielded in
    let both = k.holds (model_of graph)
    (implements_items graph _ _ _ (λ x i h. search (rules, of_calls, h.says.met, h.shows)) _ (λ a r f h. (search (rules, of_calls, h), search (rules, of_calls, h))))
    (λ a h. refl) in
    let (a, (reached, cycle)) = subst (ReachesCycle graph) starts both.1 in
    let acyclic : IsAcyclicFrom graph c.args.starts.now = search rules in
    acyclic a reached cycle)
    (node_says _ c.in-Err.error c.in-Node.field-0 c.in-Node.is c.in-Err.ensures.error)

pub returns-in-Ok-clause-order : goal.returns-in-Ok-clause-order
returns-in-Ok-clause-order c =
    let graph = graph_of c.args.self.now in
    let p = c.in-Ok.ensures.order in
    let starts : map (λ x. x) p.starts ≡ c.args.starts.now = sound_nodes _ p.starts p.yielded in
    let k = p.holds (model_of graph)
    (implements_items graph _ _ _ (λ x i h. search (rules, of_calls, h.says.met, h.shows)) _ (λ a r f h. (search (rules, of_calls, h), search (rules, of_calls, h))))
    (λ a h. refl) in
    let greatest = greatest_numbers _ (model_of graph) (map (λ x. x) p.starts) c.in-Ok.order.items k (λ x y a b. refl) in
    subst (λ nodes. IsGreatestTopologicalOrder graph nodes c.in-Ok.order.items) starts
    (subst (λ order. IsGreatestTopologicalOrder graph (map (λ x. x) p.starts) order) (map-id c.in-Ok.order.items) greatest)

pub returns-in-Ok-clause-acyclic : goal.returns-in-Ok-clause-acyclic
returns-in-Ok-clause-acyclic c =
    let graph = graph_of c.args.self.now in
    let p = c.in-Ok.ensures.order in
    let starts : map (λ x. x) p.starts ≡ c.args.starts.now = sound_nodes _ p.starts p.yielded in
    let k = p.holds (model_of graph)
    (implements_items graph _ _ _ (λ x i h. search (rules, of_calls, h.says.met, h.shows)) _ (λ a r f h. (search (rules, of_calls, h), search (rules, of_calls, h))))
    (λ a h. refl) in
    subst (IsAcyclicFrom graph) starts k.no_cycle
