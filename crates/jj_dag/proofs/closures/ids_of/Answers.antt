use Rattle.jj_dag.specs.ClosureGraph.{ReturnsId}
use Rattle.jj_dag.proofs.ClosureGraphs.{returns_id}
use Rattle.jj_dag.proofs.Expanding.{told_more}
use Rattle.jj_dag.proofs.closures.ids_of.Goals as goal

pub loop-node-preserved : goal.loop-node-preserved
loop-node-preserved g c =
    told_more (ReturnsId g.F.Fn c.args.id_fn.now) c.args.nodes.now c.loop-node.node-index c.loop-node.ids.items c.push.new.self.items c.node-item.result c.in_ok-id.id c.loop-node-test.true c.node-item.is
    (returns_id g.F.Fn c.id_fn.ensures c.in_ok-id.was) c.loop-node.invariant c.in_ok-push.ensures.items
