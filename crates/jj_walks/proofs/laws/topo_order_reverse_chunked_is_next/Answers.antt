use Rattle.jj_walks.proofs.GraphLaws.{chunk_is_next}
use Rattle.jj_walks.proofs.laws.topo_order_reverse_chunked_is_next.Goals as goal

pub returns : goal.returns
returns g c start left id_fn neighbors_fn cycle_fn result = chunk_is_next _ _ _ left result
