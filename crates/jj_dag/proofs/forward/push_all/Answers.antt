use Rattle.std.proofs.Common.{rules, append-nil, append_assoc, ◌≡◌, ◌++◌, ◌∷◌, [], Ok, false, map, refl, sym, ◌∙◌, ap}
use Rattle.jj_dag.proofs.FailingOrders.{begins_failed, drained_nodes, ok-push, pending-push}
use Rattle.jj_dag.proofs.forward.push_all.Goals as goal

pub loop-item-init : goal.loop-item-init
loop-item-init g c =
    let same : c.into_iter-item-iterator.result ≡ c.args.items = c.into_iter-item-iterator.ensures.into_iter_gives in
    record { can = rw same c.requires.can; finite = rw same c.requires.finite; sound = ([], refl, sym (append-nil c.args.stack.now.items)) }

pub loop-item-preserved : goal.loop-item-preserved
loop-item-preserved g c =
    let before = c.loop-item.invariant.sound in
    let is : c.in-Some.item ≡ Ok c.in-Ok.node = c.in-Ok.is in
    let more : c.push.new.self.items ≡ c.loop-item.stack.items ++ (c.in-Ok.node, false) ∷ [] = c.in_ok-push-in-Ok.ensures.items in
    record {
      can = search rules;
      finite = search rules;
      sound = (
        before.0 ++ c.in-Ok.node ∷ [],
        ap (λ x. c.loop-item.yielded ++ x ∷ []) is ∙ ok-push c.loop-item.yielded before.0 c.in-Ok.node before.1,
        more ∙ ap (λ l. l ++ (c.in-Ok.node, false) ∷ []) before.2 ∙ append_assoc c.args.stack.now.items (map (λ x. (x, false)) before.0) ((c.in-Ok.node, false) ∷ [])
            ∙ ap (λ l. c.args.stack.now.items ++ l) (sym (pending-push before.0 c.in-Ok.node)),
      );
    }

pub returns-in-Err-clause-failed : goal.returns-in-Err-clause-failed
returns-in-Err-clause-failed g c =
    let sound = c.loop-item.invariant.sound in
    let begins = begins_failed (λ a b. b ≡ a) g.I.Iterator.next_gives c.args.items sound.0 c.in-Err.error c.into_iter-item-iterator.ensures.into_iter_gives c.loop-item.yielded_by c.in-Some.ensures.steps sound.1 c.in-Err.is in
    (sound.0, begins.2.0, rw begins.1 at begins.2.1)

pub returns-clause-nodes : goal.returns-clause-nodes
returns-clause-nodes g c =
    let sound = c.loop-item.invariant.sound in
    let drained = drained_nodes (λ a b. b ≡ a) g.I.Iterator.next_gives c.args.items sound.0 c.into_iter-item-iterator.ensures.into_iter_gives c.loop-item.yielded_by c.in-None.ensures.steps sound.1 in
    (sound.0, rw drained.1 at drained.2, sound.2)

pub next-requires : goal.next-requires
next-requires g c = search rules

pub loop-item-smaller : goal.loop-item-smaller
loop-item-smaller g c = search rules

pub drop-item-iterator-requires : goal.drop-item-iterator-requires
drop-item-iterator-requires g c κs within = search rules

pub drop-item-iterator-requires-in-Err : goal.drop-item-iterator-requires-in-Err
drop-item-iterator-requires-in-Err g c κs within = search rules

pub drop-item-iterator-requires-2 : goal.drop-item-iterator-requires-2
drop-item-iterator-requires-2 g c κs within = search rules

pub returns-clause-failed : goal.returns-clause-failed
returns-clause-failed g c = search rules

pub returns-clause-acyclic : goal.returns-clause-acyclic
returns-clause-acyclic g c = search rules
