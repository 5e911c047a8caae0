use Rattle.contracts_walks.proofs.acyclic.next_in_order.Goals as goal

pub returns : goal.returns
returns g c =
    c.topo_order_reverse_chunked_is_next.ensures c.args.start.now.items c.topo_order_reverse_chunked-chunk.new.start.items c.args.id_fn c.args.neighbors_fn c.args.cycle_fn c.topo_order_reverse_chunked-chunk.result
    c.topo_order_reverse_chunked-chunk.ensures.chunk c.topo_order_reverse_chunked-chunk.ensures.error
