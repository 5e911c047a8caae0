use Rattle.std.proofs.Common.{◌≡◌, ◌++◌, ◌∷◌, []}
use Rattle.jj_dag.proofs.DenseSets.{pushed}
use Rattle.jj_dag.proofs.dense_set.DenseSetNodeSetUsize.insert.Goals as goal

pub returns-clause-keys : goal.returns-clause-keys
returns-clause-keys c =
    let grown : c.push.new.self.items ≡ c.self.inside.members.items ++ c.args.key ∷ [] = c.in_ok-push.ensures.items in
    rw (← c.self.view_is, grown) (pushed c.self.inside.members.items c.args.key)
