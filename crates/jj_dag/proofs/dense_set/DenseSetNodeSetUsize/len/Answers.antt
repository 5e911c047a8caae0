use Rattle.jj_dag.proofs.DenseSets.{members_distinct}
use Rattle.jj_dag.proofs.dense_set.DenseSetNodeSetUsize.len.Goals as goal

pub returns-clause-distinct : goal.returns-clause-distinct
returns-clause-distinct c = rw (← c.self.view_is) (members_distinct c.self.inside.members.items c.self.inside.indices.items c.self.invariant)
