use Rattle.std.proofs.Common.{arith, ◌+◌, ◌≡◌, ◌++◌, ◌∷◌, [], take, get_or}
use Rattle.std.proofs.lemmas.Grind.{common_steps}
use Rattle.jj_dag.specs.NumberSets.{keys_of}
use Rattle.jj_dag.proofs.PrunedSearches.{inserted_more}
use Rattle.jj_dag.proofs.ranked_heads.insert_all.Goals as goal

pub loop-node-preserved : goal.loop-node-preserved
loop-node-preserved c =
    let xs = c.args.nodes.now in
    let i = c.loop-node.node-index in
    let step : take (i + 1) xs ≡ take i xs ++ get_or xs i 0 ∷ [] = grind (arith, common_steps) in
    inserted_more (take i xs) (take (i + 1) xs) (keys_of c.loop-node.set) (keys_of c.insert.new.self) (get_or xs i 0) c.loop-node.invariant step c.in_ok-insert.ensures.updates
