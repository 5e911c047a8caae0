use Rattle.std.proofs.Common.{rules, of_calls, ◌≡◌, ◌++◌, ◌∷◌, [], Ok, Err, inr, map, refl, sym, ap, ◌∙◌}
use Rattle.std.proofs.lemmas.List.{map-append}
use Rattle.std.proofs.lemmas.Result.{err_from_is_err_and}
use Rattle.jj_dag.proofs.FailingOrders.{Yields-push}
use Rattle.jj_walks.specs.GroupedSteps.{Steps, Item}
use Rattle.jj_store_walks.proofs.grouped.collect_nodes.Goals as goal

pub loop-item-init : goal.loop-item-init
loop-item-init g c =
    let source : c.into_iter-item-iterator.result ≡ c.args.nodes = c.into_iter-item-iterator.ensures.into_iter_gives in
    record { can = λ more. rw source c.requires; finite = search rules; items = ([], refl, sym c.new-found.ensures.items) }

pub loop-item-preserved : goal.loop-item-preserved
loop-item-preserved g c =
    let (items, yielded, found) = c.loop-item.invariant.items in
    let item : Item g.row.N.Denot g.row.ID.Denot = (c.in_ok-node.node, c.in_ok-node._edges) in
    record {
      can = first_of (search rules, search (rules, of_calls));
      finite = search rules;
      items = (
        items ++ item ∷ [],
        ap (λ l. l ++ c.in-Some.item ∷ []) yielded ∙ ap (λ x. map (λ y. Ok y) items ++ x ∷ []) c.in_ok-node.was ∙ sym (map-append (λ y. Ok y) items (item ∷ [])),
        map-append (λ x. x.0) items (item ∷ []) ∙ ap (λ l. l ++ c.in_ok-node.node ∷ []) found ∙ sym c.in_ok-push.ensures.items,
      );
    }

pub returns-in_err-node-clause-error : goal.returns-in_err-node-clause-error
returns-in_err-node-clause-error g c =
    let steps = Steps g.F.Fn g.ID.PartialEq.eq g.S.Iterator.next_gives in
    let source : c.into_iter-item-iterator.result ≡ c.args.nodes = c.into_iter-item-iterator.ensures.into_iter_gives in
    let (items, yielded, found) = c.loop-item.invariant.items in
    let run = rw (source, yielded) at c.loop-item.yielded_by in
    let p = err_from_is_err_and c.from_residual.result c.from_residual.ensures.1 in
    let last = rw c.in_err-node.was at c.in-Some.ensures.steps in
    rw (p.1, p.2) (inr (items, c.next.new.self, Yields-push steps (map (λ x. Ok x) items) (Err c.in_err-node.field-0.0) c.args.nodes c.loop-item.item-iterator c.next.new.self run last))

pub returns-clause-nodes : goal.returns-clause-nodes
returns-clause-nodes g c =
    let source : c.into_iter-item-iterator.result ≡ c.args.nodes = c.into_iter-item-iterator.ensures.into_iter_gives in
    let (items, yielded, found) = c.loop-item.invariant.items in
    let run = rw (source, yielded) at c.loop-item.yielded_by in
    (items, found, (c.next.new.self, (c.loop-item.item-iterator, run, c.in-None.ensures.steps)))
