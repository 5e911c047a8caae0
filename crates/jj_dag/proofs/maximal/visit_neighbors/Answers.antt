use Rattle.std.proofs.Common.{rules, of_calls, arith, ◌≡◌, ◌++◌, ◌∷◌, [], Ok, refl, ◌∙◌, ap}
use Rattle.std.proofs.lemmas.Fn.{called_at}
use Rattle.std.proofs.lemmas.List.Elements.{Contains-push}
use Rattle.jj_dag.specs.HeadsSearch.VisitsNeighbors.{none, more}
use Rattle.jj_dag.proofs.FailingOrders.{begins_failed, drained_nodes, ok-push}
use Rattle.jj_dag.proofs.ClosureGraphs.{returns_id}
use Rattle.jj_dag.proofs.Walking.{AlwaysReturns-call}
use Rattle.jj_dag.proofs.maximal.visit_neighbors.Goals as goal

pub loop-neighbor-init : goal.loop-neighbor-init
loop-neighbor-init g c =
    let ends = (AlwaysReturns-call g.N.FnMut _ c.requires.graph.lists c.neighbors_fn-neighbor-items.ensures).0 c.into_iter-neighbor-iterator.result c.into_iter-neighbor-iterator.ensures.into_iter_gives in
    record { can = ends.0; finite = ends.1; balance = refl; grows = omega arith; sound = ([], refl, none, refl) }

pub loop-neighbor-preserved : goal.loop-neighbor-preserved
loop-neighbor-preserved g c =
    let before = c.loop-neighbor.invariant in
    let sound = before.sound in
    let y = c.in-Ok.neighbor in
    let is : c.in-Some.neighbor ≡ Ok y = c.in-Ok.is in
    let did = c.in_ok-visit_neighbor.ensures in
    record {
      can = search rules;
      finite = search rules;
      balance = omega (arith, before.balance, did.balance);
      grows = omega (arith, before.grows, did.grows);
      sound = (
        sound.0 ++ y ∷ [],
        ap (λ x. c.loop-neighbor.yielded ++ x ∷ []) is ∙ ok-push c.loop-neighbor.yielded sound.0 y sound.1,
        more y c.in_ok-id.id sound.2 (returns_id g.F.Fn c.id_fn.ensures c.in_ok-id.was) (record { keys = did.keys; leaves = did.heads; visits = did.visited; known = did.known; new = did.new }),
        (y, Contains-push sound.0 y),
      );
    }

pub returns-in-Err-clause-error : goal.returns-in-Err-clause-error
returns-in-Err-clause-error g c =
    let sound = c.loop-neighbor.invariant.sound in (
      c.neighbors_fn-neighbor-items.result,
      called_at g.N.FnMut c.neighbors_fn-neighbor-items.ensures refl,
      (sound.0, begins_failed g.NI.IntoIterator.into_iter_gives g.NI.IntoIter.Iterator.next_gives c.neighbors_fn-neighbor-items.result sound.0 c.in-Err.error c.into_iter-neighbor-iterator.ensures.into_iter_gives c.loop-neighbor.yielded_by c.in-Some.ensures.steps sound.1 c.in-Err.is),
    )

pub returns-clause-graph : goal.returns-clause-graph
returns-clause-graph g c = record { id_fn = c.requires.graph.id_fn; neighbors_fn = search of_calls; lists = (AlwaysReturns-call g.N.FnMut _ c.requires.graph.lists c.neighbors_fn-neighbor-items.ensures).1 }

pub returns-clause-met : goal.returns-clause-met
returns-clause-met g c =
    let sound = c.loop-neighbor.invariant.sound in (
      c.neighbors_fn-neighbor-items.result,
      called_at g.N.FnMut c.neighbors_fn-neighbor-items.ensures refl,
      record {
        nodes = sound.0;
        drained = drained_nodes g.NI.IntoIterator.into_iter_gives g.NI.IntoIter.Iterator.next_gives c.neighbors_fn-neighbor-items.result sound.0 c.into_iter-neighbor-iterator.ensures.into_iter_gives c.loop-neighbor.yielded_by c.in-None.ensures.steps sound.1;
        met = sound.2;
        none = sound.3;
      },
    )
