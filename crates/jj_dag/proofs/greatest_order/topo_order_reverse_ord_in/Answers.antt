use Rattle.std.proofs.Common.{rules, inl, inr}
use Rattle.std.proofs.lemmas.Result.{err_from_is_err_and}
use Rattle.jj_dag.specs.Expanding.{whole}
use Rattle.jj_dag.proofs.IndexedGraph.{beside_cycle, whole_order}
use Rattle.jj_dag.proofs.Errors.{node_weaker}
use Rattle.jj_dag.proofs.Wrapped.{all_sound}
use Rattle.jj_dag.proofs.greatest_order.topo_order_reverse_ord_in.Goals as goal

pub returns-in_err-nodes-clause-error : goal.returns-in_err-nodes-clause-error
returns-in_err-nodes-clause-error g c =
    let p = err_from_is_err_and c.from_residual.result c.from_residual.ensures.1 in
    rw (p.1, p.2) (node_weaker c.in_err-nodes.field-0.0 _ _ (λ error begins. inl (inl begins)) c.in_err-nodes.ensures.failed)

pub returns-in_err-found-clause-error : goal.returns-in_err-found-clause-error
returns-in_err-found-clause-error g c =
    let r = err_from_is_err_and c.from_residual-in_err-found.result c.from_residual-in_err-found.ensures.1 in
    rw (r.1, r.2) (node_weaker c.in_err-found.field-0.0 _ _ (λ error p.
    inl (inr (record { node = p.0; fails = p.1; reached = record { starts = c.in_ok-nodes.nodes.items; yielded = c.in_ok-nodes.ensures.nodes; holds = p.2 } }))) c.in_err-found.ensures.failed)

pub returns-in-Some-clause-error : goal.returns-in-Some-clause-error
returns-in-Some-clause-error g c =
    let p = c.in_ok-found.ensures.collected in
    inr (record {
      node = c.in-Some.node;
      made_of = c.cycle_fn.ensures;
      holds = record {
        starts = c.in_ok-nodes.nodes.items;
        yielded = c.in_ok-nodes.ensures.nodes;
        holds = λ walk implemented nodes. beside_cycle walk (whole walk) g.T.Ord.cmp _ c.in_ok-found.found p.0 _ (λ a. all_sound _ (walk.graph a)) implemented.closed nodes (p.1 walk implemented nodes) (c.in_ok-order.order, c.in_ok-order.left) c.in_ok-order.ensures c.in-Some.node c.in-Some.is;
      };
    })

pub returns-in-None-clause-order : goal.returns-in-None-clause-order
returns-in-None-clause-order g c =
    let p = c.in_ok-found.ensures.collected in
    record {
      starts = c.in_ok-nodes.nodes.items;
      yielded = c.in_ok-nodes.ensures.nodes;
      holds = λ walk implemented nodes. whole_order walk (whole walk) g.T.Ord.cmp _ c.in_ok-found.found p.0 _ (λ a. all_sound _ (walk.graph a)) implemented.closed nodes (p.1 walk implemented nodes) (c.in_ok-order.order, c.in_ok-order.left) c.in_ok-order.ensures c.in-None.is;
    }

pub collect_ok-requires : goal.collect_ok-requires
collect_ok-requires g c = c.requires.start

pub collect-requires-clause-graph : goal.collect-requires-clause-graph
collect-requires-clause-graph g c = record { id_fn = c.requires.graph.id_fn; neighbors_fn = c.requires.graph.neighbors_fn; lists = c.requires.graph.lists }

pub into_greatest_order-requires : goal.into_greatest_order-requires
into_greatest_order-requires g c = c.in_ok-found.ensures.collected.0

pub cycle_fn-requires : goal.cycle_fn-requires
cycle_fn-requires g c = search rules
