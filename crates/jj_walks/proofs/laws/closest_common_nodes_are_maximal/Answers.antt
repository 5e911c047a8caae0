use Rattle.jj_walks.proofs.GraphLaws.{closest_are_maximal}
use Rattle.jj_walks.proofs.laws.closest_common_nodes_are_maximal.Goals as goal

pub returns : goal.returns
returns g c set1 set2 id_fn neighbors_fn result = closest_are_maximal _ _ _ result
