use Rattle.std.proofs.Common.{rules, ◌≡◌, ◌++◌, ◌∷◌, [], Ok, map, refl, sym, ◌∙◌, ap}
use Rattle.jj_dag.proofs.FailingOrders.{begins_failed, drained_nodes, ok-push}
use Rattle.jj_dag.proofs.collect_ok.collect_ok.Goals as goal

pub loop-item-init : goal.loop-item-init
loop-item-init g c =
    let ends = c.requires c.into_iter-item-iterator.result c.into_iter-item-iterator.ensures.into_iter_gives in
    record { can = ends.0; finite = ends.1; sound = rw c.new-nodes.ensures.items refl }

pub loop-item-preserved : goal.loop-item-preserved
loop-item-preserved g c =
    let is : c.in-Some.item ≡ Ok c.in-Ok.node = c.in-Ok.is in
    record {
      can = search rules;
      finite = search rules;
      sound = ap (λ x. c.loop-item.yielded ++ x ∷ []) is ∙ ok-push c.loop-item.yielded c.loop-item.nodes.items c.in-Ok.node c.loop-item.invariant.sound
          ∙ ap (map (λ x. Ok x)) (sym c.in_ok-push-in-Ok.ensures.items);
    }

pub returns-in-Err-clause-failed : goal.returns-in-Err-clause-failed
returns-in-Err-clause-failed g c =
    let nodes = c.loop-item.nodes.items in
    (nodes, begins_failed g.L.IntoIterator.into_iter_gives g.L.IntoIter.Iterator.next_gives c.args.items nodes c.in-Err.error c.into_iter-item-iterator.ensures.into_iter_gives c.loop-item.yielded_by c.in-Some.ensures.steps c.loop-item.invariant.sound c.in-Err.is)

pub returns-clause-nodes : goal.returns-clause-nodes
returns-clause-nodes g c =
    drained_nodes g.L.IntoIterator.into_iter_gives g.L.IntoIter.Iterator.next_gives c.args.items c.loop-item.nodes.items c.into_iter-item-iterator.ensures.into_iter_gives c.loop-item.yielded_by c.in-None.ensures.steps c.loop-item.invariant.sound

pub next-requires : goal.next-requires
next-requires g c = search rules

pub loop-item-smaller : goal.loop-item-smaller
loop-item-smaller g c = search rules

pub drop-item-iterator-requires : goal.drop-item-iterator-requires
drop-item-iterator-requires g c κs within = search rules

pub drop-item-iterator-requires-in-Err : goal.drop-item-iterator-requires-in-Err
drop-item-iterator-requires-in-Err g c κs within = search rules

pub drop-item-iterator-requires-2 : goal.drop-item-iterator-requires-2
drop-item-iterator-requires-2 g c κs within = search rules
