use Rattle.std.proofs.lemmas.Result.{IfOk-weaker}
use Rattle.contracts_walks.proofs.acyclic.greatest_first.Goals as goal

pub returns : goal.returns
returns g c graph starts defines yields acyclic =
    let law = c.topo_order_reverse_ord_is_greatest.ensures c.args.start c.args.id_fn c.args.neighbors_fn c.args.cycle_fn c.topo_order_reverse_ord-order.result
    c.topo_order_reverse_ord-order.ensures.order c.topo_order_reverse_ord-order.ensures.error graph starts defines yields acyclic in
    (IfOk-weaker c.topo_order_reverse_ord-order.result _ _ (λ v greatest. greatest.0) law.0, law.1)
