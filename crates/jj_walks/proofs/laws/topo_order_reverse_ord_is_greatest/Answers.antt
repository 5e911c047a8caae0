use Rattle.jj_walks.proofs.GraphLaws.{order_is_greatest}
use Rattle.jj_walks.proofs.laws.topo_order_reverse_ord_is_greatest.Goals as goal

pub returns : goal.returns
returns g c start id_fn neighbors_fn cycle_fn result = order_is_greatest _ _ _ _ result
