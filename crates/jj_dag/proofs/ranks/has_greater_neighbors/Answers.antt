use Rattle.std.proofs.Common.{rules, arith, ◌<◌}
use Rattle.jj_dag.specs.ArrayGraphs.{graph_of}
use Rattle.jj_dag.proofs.RankedNodes.{has_list, neighbors_more}
use Rattle.jj_dag.proofs.ranks.has_greater_neighbors.Goals as goal

pub loop-node-preserved : goal.loop-node-preserved
loop-node-preserved c =
    neighbors_more (graph_of c.args.graph.now) (λ a b. a < b) c.loop-node.node c.neighbors_of.result.now c.neighbors_of.ensures c.loop-node.invariant (c.are_above.ensures (search rules))

pub returns : goal.returns
returns c t a b edge =
    let listed = has_list c.args.graph.now a b edge in
    let ranked = c.loop-node.invariant a b (omega (arith, listed)) edge in
    omega (arith, ranked, listed)
