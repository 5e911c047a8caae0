use Rattle.jj_walks.proofs.GraphLaws.{yields_ok_preorder}
use Rattle.jj_walks.proofs.laws.dfs_ok_yields_preorder.Goals as goal

pub returns : goal.returns
returns g c start id_fn neighbors_fn it yielded = yields_ok_preorder _ _ _ _ _ _ _ _ _ _ _ _ it yielded
