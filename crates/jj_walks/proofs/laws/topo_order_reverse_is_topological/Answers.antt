use Rattle.jj_walks.proofs.GraphLaws.{reverse_is_topological}
use Rattle.jj_walks.proofs.laws.topo_order_reverse_is_topological.Goals as goal

pub returns : goal.returns
returns g c start id_fn neighbors_fn cycle_fn result = reverse_is_topological _ _ _ result
