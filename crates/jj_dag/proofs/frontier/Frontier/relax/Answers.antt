use Rattle.std.proofs.Common.{eqb}
use Rattle.std.proofs.lemmas.Result.{on_ok_weaker}
use Rattle.jj_dag.specs.NodeStates.{state_at}
use Rattle.jj_dag.specs.NumberSets.{entries_of}
use Rattle.jj_dag.proofs.RankedSearches.{listed_more}
use Rattle.jj_dag.proofs.frontier.Frontier.relax.Goals as goal

pub returns-clause-listed : goal.returns-clause-listed
returns-clause-listed c =
    let left = c.in_ok-push_open.ensures in
    on_ok_weaker c.push_open-2.result (λ right.
    listed_more (state_at eqb (entries_of c.args.known.now)) (state_at eqb (entries_of c.relax.new.known)) c.state_of-before.result c.with_sides-after.result c.args.node c.args.sides
    c.args.self.now.left.items c.push_open.new.nodes.items c.args.self.now.right.items c.push_open-2.new.nodes.items
    c.state_of-before.ensures c.with_sides-after.ensures c.in_ok-relax.ensures.known left.0 left.1 right.0 right.1)
    c.push_open-2.ensures
