use Rattle.std.proofs.Common.{rules, arith, refl}
use Rattle.std.proofs.lemmas.List.Elements.{Contains-push}
use Rattle.jj_dag.specs.NodeStates.RelaxesNodes.{none, more}
use Rattle.jj_dag.proofs.ClosureGraphs.{returns_id}
use Rattle.jj_dag.proofs.closest_common.relax_all.Goals as goal

pub loop-node-init : goal.loop-node-init
loop-node-init g c =
    let ends = c.requires.nodes c.into_iter-node-iterator.result c.into_iter-node-iterator.ensures.into_iter_gives in
    record { can = ends.0; finite = ends.1; states = none; balance = omega arith; small = λ h. h; some = refl }

pub loop-node-preserved : goal.loop-node-preserved
loop-node-preserved g c =
    let before = c.loop-node.invariant in
    let node = c.in-Some.node in
    let done = c.in_ok-relax.ensures in
    record {
      can = search rules;
      finite = search rules;
      states = more node c.in_ok-id.id before.states (returns_id g.F.Fn c.id_fn.ensures c.in_ok-id.was) (record { states = done.known; is_pending = done.pending });
      balance = omega (arith, before.balance, done.balance);
      small = λ h. done.small;
      some = (node, Contains-push c.loop-node.yielded node);
    }

pub returns-clause-states : goal.returns-clause-states
returns-clause-states g c = record {
  nodes = c.loop-node.yielded;
  drained = (c.into_iter-node-iterator.result, c.into_iter-node-iterator.ensures.into_iter_gives, (c.next.new.self, (c.loop-node.node-iterator, c.loop-node.yielded_by, c.in-None.ensures.steps)));
  states = c.loop-node.invariant.states;
  none = c.loop-node.invariant.some;
}
