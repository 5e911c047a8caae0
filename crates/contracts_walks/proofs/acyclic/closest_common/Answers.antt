use Rattle.contracts_walks.proofs.acyclic.closest_common.Goals as goal

pub returns : goal.returns
returns g c =
    c.closest_common_nodes_are_maximal.ensures c.args.set1 c.args.set2 c.args.id_fn c.args.neighbors_fn c.closest_common_nodes-found.result
    c.closest_common_nodes-found.ensures.closest c.closest_common_nodes-found.ensures.error
