use Rattle.std.proofs.Common.{rules, arith, ◌≡◌, ◌++◌, ◌∷◌, [], Ok, Err, map, refl, sym, ◌∙◌, ap, subst, append-nil, append_assoc}
use Rattle.std.proofs.lemmas.Grind.{common_steps}
use Rattle.std.proofs.lemmas.Iterator.{items_from_drains}
use Rattle.std.proofs.lemmas.Iterator.Adapters.{YieldsList-from_vec}
use Rattle.std.proofs.lemmas.List.{map-append, map-id}
use Rattle.jj_walks.specs.ListsByKey.{items_at}
use Rattle.jj_walks.specs.Reversed.{incoming_edges, edge_lists}
use Rattle.jj_dag.proofs.FailingOrders.{ok-push, Yields-push}
use Rattle.jj_walks.proofs.Reversing.{leads_turned, leads_nothing, leads_entered, leads_left, shows_more, shows_all}
use Rattle.jj_dag.proofs.Walking.{returned}
use Rattle.jj_walks.proofs.reversed.reverse_graph.Goals as goal

pub loop-item-init : goal.loop-item-init
loop-item-init g c =
    let source : c.into_iter-item-iterator.result ≡ c.args.input = c.into_iter-item-iterator.ensures.into_iter_gives in
    let none : c.new-incoming.result.entries ≡ [] = c.new-incoming.ensures.empty in
    record {
      can = rw source c.requires.callable;
      finite = rw source c.requires.finite;
      sound = ([], refl, c.new-nodes.ensures.items, λ id shows q. rw none tt);
    }

pub loop-item-preserved : goal.loop-item-preserved
loop-item-preserved g c =
    let before = c.loop-item.invariant.sound in
    let pushed : c.push.new.self.items ≡ c.loop-item.nodes.items ++ c.in-Ok.item.0 ∷ [] = c.in_ok-push.ensures.items in
    let begun = c.into_iter-edge-iterator.ensures.into_iter_gives in
    let all : c.loop-edge.yielded ≡ c.in-Ok.item.1.items =
    sym (map-id c.loop-edge.yielded) ∙ items_from_drains c.loop-edge.yielded (c.loop-edge.edge-iterator, c.loop-edge.yielded_by, λ _. (c.next-in-loop-edge.new.self, c.in-None-edge.ensures.steps))
    (YieldsList-from_vec {s = c.into_iter-edge-iterator.result} c.in-Ok.item.1.items begun.0 (begun.1 ∙ c.in-Ok.item.1.ok.0)) in
    record {
      can = search rules;
      finite = search rules;
      sound = (
        before.0 ++ c.in-Ok.item ∷ [],
        ap (λ x. c.loop-item.yielded ++ x ∷ []) c.in-Ok.is ∙ ok-push c.loop-item.yielded before.0 c.in-Ok.item before.1,
        pushed ∙ ap (λ l. l ++ c.in-Ok.item.0 ∷ []) before.2 ∙ sym (map-append (λ x. x.0) before.0 (c.in-Ok.item ∷ [])),
        λ id shows q.
            leads_entered g.ID.PartialEq.eq g.ID.Clone.is_clone id before.0 c.in-Ok.item c.loop-edge.yielded (items_at g.ID.PartialEq.eq c.loop-edge.incoming q) q all
            (c.loop-edge.invariant.turned id shows (incoming_edges g.ID.PartialEq.eq q (edge_lists before.0)) q (before.3 id shows q)),
      );
    }

pub loop-edge-init : goal.loop-edge-init
loop-edge-init g c = record {
  can = tt;
  finite = tt;
  turned = λ id shows before q k. leads_nothing g.ID.PartialEq.eq g.ID.Clone.is_clone id before (items_at g.ID.PartialEq.eq c.loop-item.incoming q) k;
}

pub loop-edge-preserved : goal.loop-edge-preserved
loop-edge-preserved g c = record {
  can = tt;
  finite = tt;
  turned = λ id shows before q k.
      let its_id : c.as_id.result.now ≡ id c.in-Ok.item.0 = shows c.in-Ok.item.0 c.as_id.result (returned g.F.Fn c.as_id.ensures) in
      leads_turned g.ID.PartialEq.eq g.ID.Clone.is_clone id before c.loop-edge.yielded c.in-Some-edge.edge c.in-Ok.item.0 c.in_ok-source.source q
      (items_at g.ID.PartialEq.eq c.loop-edge.incoming q) (items_at g.ID.PartialEq.eq c.push_at.new.lists q)
      (subst (λ i. g.ID.Clone.is_clone i c.in_ok-source.source) its_id c.in_ok-source.ensures.cases)
      (c.in_ok-push_at.ensures q) (c.loop-edge.invariant.turned id shows before q k);
}

pub returns-in-Err-clause-error : goal.returns-in-Err-clause-error
returns-in-Err-clause-error g c =
    let before = c.loop-item.invariant.sound in
    let source : c.into_iter-item-iterator.result ≡ c.args.input = c.into_iter-item-iterator.ensures.into_iter_gives in
    let all : c.loop-item.yielded ++ c.in-Some.item ∷ [] ≡ map (λ x. Ok x) before.0 ++ Err c.in-Err.error ∷ [] =
    ap (λ x. c.loop-item.yielded ++ x ∷ []) c.in-Err.is ∙ ap (λ l. l ++ Err c.in-Err.error ∷ []) before.1 in
    let run = Yields-push g.I.Iterator.next_gives c.loop-item.yielded c.in-Some.item c.into_iter-item-iterator.result c.loop-item.item-iterator c.next.new.self c.loop-item.yielded_by c.in-Some.ensures.steps in
    (before.0, c.next.new.self, rw (source, all) at run)

pub loop-node-init : goal.loop-node-init
loop-node-init g c =
    let before = c.loop-item.invariant.sound in
    let source : c.into_iter-item-iterator.result ≡ c.args.input = c.into_iter-item-iterator.ensures.into_iter_gives in
    let run = rw (source, before.1) at c.loop-item.yielded_by in
    let none : c.new-reversed.result.items ≡ [] = c.new-reversed.ensures.items in (
      before.0,
      [],
      (c.next.new.self, (c.loop-item.item-iterator, run, c.in-None.ensures.steps)),
      sym before.2 ∙ sym (append-nil c.loop-item.nodes.items),
      λ id shows. (before.3 id shows, rw none tt),
    )

pub loop-node-preserved : goal.loop-node-preserved
loop-node-preserved g c =
    let before = c.loop-node.invariant in
    let popped : c.loop-node.nodes.items ≡ c.pop.new.self.items ++ c.in-Some-pop.node ∷ [] = c.in-Some-pop.ensures.items in
    let pushed : c.push-in-Some-pop.new.self.items ≡ c.loop-node.reversed.items ++ (c.in-Some-pop.node, c.take_edges-edges.result) ∷ [] = c.in_ok-push-2.ensures.items in (
      before.0,
      c.in-Some-pop.node ∷ before.1,
      before.2,
      before.3 ∙ ap (λ l. l ++ before.1) popped ∙ append_assoc c.pop.new.self.items (c.in-Some-pop.node ∷ []) before.1,
      λ id shows.
          let known = before.4 id shows in
          let its_id : c.as_id-in-Some-pop.result.now ≡ id c.in-Some-pop.node = shows c.in-Some-pop.node c.as_id-in-Some-pop.result (returned g.F.Fn c.as_id-in-Some-pop.ensures) in
          let taken : c.take_edges-edges.result.items ≡ items_at g.ID.PartialEq.eq c.loop-node.incoming (id c.in-Some-pop.node) =
          c.take_edges-edges.ensures.taken ∙ ap (items_at g.ID.PartialEq.eq c.loop-node.incoming) its_id in (
            λ q. leads_left g.ID.PartialEq.eq g.ID.Clone.is_clone id c.in-Some-pop.node before.1 (incoming_edges g.ID.PartialEq.eq q (edge_lists before.0)) c.as_id-in-Some-pop.result.now q
                (items_at g.ID.PartialEq.eq c.loop-node.incoming q) (items_at g.ID.PartialEq.eq c.take_edges-edges.new.incoming q) its_id (c.take_edges-edges.ensures.left q) (known.0 q),
            shows_more g.ID.PartialEq.eq g.ID.Clone.is_clone id (edge_lists before.0) before.1 c.in-Some-pop.node c.take_edges-edges.result c.loop-node.reversed.items c.push-in-Some-pop.new.self.items pushed
                (rw taken (known.0 (id c.in-Some-pop.node))) known.1,
          ),
    )

pub returns-clause-reversed : goal.returns-clause-reversed
returns-clause-reversed g c =
    let before = c.loop-node.invariant in
    let empty : c.loop-node.nodes.items ≡ [] = first_of (search rules, grind (arith, common_steps)) in (
      before.0,
      before.2,
      λ id shows. shows_all g.ID.PartialEq.eq g.ID.Clone.is_clone id before.0 c.loop-node.nodes.items before.1 (edge_lists c.loop-node.reversed.items) before.3 empty (before.4 id shows).1,
    )
