use Rattle.std.proofs.Common.{rules, of_calls, ◌≡◌, refl, subst, sym, map}
use Rattle.std.proofs.lemmas.Fn.{always_returns_same}
use Rattle.std.proofs.lemmas.List.{map-id}
use Rattle.jj_dag.specs.Graph.{OnCycleFrom}
use Rattle.jj_dag.specs.Orders.{IsWholePostorder}
use Rattle.jj_dag.proofs.Errors.{if_fails, if_ok}
use Rattle.jj_dag.specs.ArrayGraphs.{graph_of}
use Rattle.jj_dag.proofs.ArrayGraphs.{copied_nodes, implements_lists, model_of}
use Rattle.jj_dag.proofs.array_graph.ArrayGraph.postorder.Goals as goal

pub topo_order_forward_in-requires-clause-graph : goal.topo_order_forward_in-requires-clause-graph
topo_order_forward_in-requires-clause-graph c = record {
  id_fn = search rules;
  neighbors_fn = search (rules, of_calls);
  lists = always_returns_same _ _ _ (λ a r f h. (λ it b. (search rules, search rules), search (rules, of_calls, h)));
}

pub returns-clause-order : goal.returns-clause-order
returns-clause-order c = if_ok c.topo_order_forward_in.result c.topo_order_forward_in.ensures.order (λ order p.
    let graph = graph_of c.args.self.now in
    let starts : map (λ x. x) p.starts ≡ c.args.starts.now = copied_nodes c.copied.result p.starts c.args.starts.now (search (rules, c.copied.ensures, c.iter.ensures)) p.yielded in
    let k = p.holds (model_of graph)
    (implements_lists graph _ _ _ (λ x i h. search (rules, of_calls, h.says.met, h.shows)) _ (λ a r f h. (search (rules, of_calls, h), search (rules, of_calls, h))))
    (λ a h. refl) in
    subst (λ nodes. IsWholePostorder graph nodes order.items) starts (subst (IsWholePostorder graph (map (λ x. x) p.starts)) (map-id order.items) k))

pub returns-clause-cycle : goal.returns-clause-cycle
returns-clause-cycle c = if_fails c.topo_order_forward_in.result c.topo_order_forward_in.ensures.cycle (λ node p.
    let graph = graph_of c.args.self.now in
    let on = p.on_cycle in
    let starts : map (λ x. x) on.starts ≡ c.args.starts.now = copied_nodes c.copied.result on.starts c.args.starts.now (search (rules, c.copied.ensures, c.iter.ensures)) on.yielded in
    let k = on.holds (model_of graph)
    (implements_lists graph _ _ _ (λ x i h. search (rules, of_calls, h.says.met, h.shows)) _ (λ a r f h. (search (rules, of_calls, h), search (rules, of_calls, h))))
    (λ a h. refl) in
    let same : node ≡ p.node = search (rules, of_calls, p.made_of) in
    subst (OnCycleFrom graph c.args.starts.now) (sym same) (subst (λ nodes. OnCycleFrom graph nodes p.node) starts k))
