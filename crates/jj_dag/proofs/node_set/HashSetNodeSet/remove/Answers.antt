use Rattle.jj_dag.proofs.Searching.{Contains-kept}
use Rattle.jj_dag.proofs.node_set.HashSetNodeSet.remove.Goals as goal

pub returns-clause-keys : goal.returns-clause-keys
returns-clause-keys g c = Contains-kept _ c.args.self.now.keys c.remove.new.self.keys c.remove.ensures.keys
