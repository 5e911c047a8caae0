use Rattle.jj_walks.proofs.GraphLaws.{plain_heads_are_maximal}
use Rattle.jj_walks.proofs.laws.plain_heads_are_maximal.Goals as goal

pub returns : goal.returns
returns g c start id_fn neighbors_fn result = plain_heads_are_maximal _ _ _ result
