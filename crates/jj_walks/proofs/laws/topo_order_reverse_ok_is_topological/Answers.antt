use Rattle.jj_walks.proofs.GraphLaws.{ok_reverse_is_topological}
use Rattle.jj_walks.proofs.laws.topo_order_reverse_ok_is_topological.Goals as goal

pub returns : goal.returns
returns g c start id_fn neighbors_fn cycle_fn result = ok_reverse_is_topological _ _ _ result
