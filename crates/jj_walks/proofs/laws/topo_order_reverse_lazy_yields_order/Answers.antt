use Rattle.jj_walks.proofs.GraphLaws.{yields_topological_order}
use Rattle.jj_walks.proofs.laws.topo_order_reverse_lazy_yields_order.Goals as goal

pub returns : goal.returns
returns g c start id_fn neighbors_fn cycle_fn it yielded = yields_topological_order _ _ _ _ _ _ _ _ _ _ it yielded
