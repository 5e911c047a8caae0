use Rattle.std.proofs.Common.{rules, arith, below_more, ◌≤◌, get_or}
use Rattle.std.proofs.lemmas.List.{get_or_default}
use Rattle.jj_dag.specs.Ranks.{rank_in}
use Rattle.jj_dag.proofs.ranks.Ranks.least_rank.Goals as goal

pub loop-node-preserved : goal.loop-node-preserved
loop-node-preserved c =
    let less : c.min-least.result ≤ c.loop-node.least = search rules in
    let now : c.min-least.result ≤ rank_in c.args.self.now (get_or c.args.nodes.now c.loop-node.node-index 0) = search rules in
    below_more _ _ (λ k below. let before = c.loop-node.invariant k below in omega (arith, before, less)) now

pub returns : goal.returns
returns c k d less = rw (get_or_default c.args.nodes.now k d 0 less) (c.loop-node.invariant k (omega arith))
