use Rattle.jj_paths.proofs.ListedNodes.{lists_nodes}
use Rattle.jj_paths.proofs.ListedOrder.{lists_in_order}
use Rattle.jj_paths.proofs.laws.node_list_laws.Goals as goal

pub returns-clause-nodes : goal.returns-clause-nodes
returns-clause-nodes g c = lists_nodes {V = g.row.V.Denot}

pub returns-clause-ordered : goal.returns-clause-ordered
returns-clause-ordered g c = lists_in_order {V = g.row.V.Denot}
