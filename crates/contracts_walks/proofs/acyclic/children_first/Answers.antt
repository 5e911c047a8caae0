use Rattle.contracts_walks.proofs.acyclic.children_first.Goals as goal

pub returns : goal.returns
returns g c =
    c.topo_order_reverse_is_topological.ensures c.args.start c.args.id_fn c.args.neighbors_fn c.args.cycle_fn c.topo_order_reverse-order.result
    c.topo_order_reverse-order.ensures.order c.topo_order_reverse-order.ensures.cycle
