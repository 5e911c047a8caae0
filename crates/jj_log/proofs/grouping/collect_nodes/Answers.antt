use Rattle.std.proofs.Common.{rules, of_calls, ◌≡◌, ◌++◌, ◌∷◌, [], Ok, Err, inr, map, sym, ap, ◌∙◌}
use Rattle.std.proofs.lemmas.List.{map-append}
use Rattle.std.proofs.lemmas.Result.{err_from_is_err_and}
use Rattle.jj_dag.proofs.FailingOrders.{Yields-push}
use Rattle.jj_walks.specs.GroupedSteps.{Steps}
use Rattle.jj_log.proofs.grouping.collect_nodes.Goals as goal

pub loop-item-init : goal.loop-item-init
loop-item-init g c =
    let source : c.into_iter-item-iterator.result ≡ c.args.nodes = c.into_iter-item-iterator.ensures.into_iter_gives in
    record { can = λ more. rw source c.requires; finite = search rules; items = sym (ap (map (λ x. Ok x)) c.new-found.ensures.items) }

pub loop-item-preserved : goal.loop-item-preserved
loop-item-preserved g c =
    record {
      can = first_of (search rules, search (rules, of_calls));
      finite = search rules;
      items = ap (λ l. l ++ c.in-Some.item ∷ []) c.loop-item.invariant.items ∙ ap (λ x. map (λ y. Ok y) c.loop-item.found.items ++ x ∷ []) c.in_ok-node.was ∙ sym (map-append (λ y. Ok y) c.loop-item.found.items (c.in_ok-node.node ∷ [])) ∙ sym (ap (map (λ y. Ok y)) c.in_ok-push.ensures.items);
    }

pub returns-in_err-node-clause-error : goal.returns-in_err-node-clause-error
returns-in_err-node-clause-error g c =
    let steps = Steps g.F.Fn g.ID.PartialEq.eq g.S.Iterator.next_gives in
    let source : c.into_iter-item-iterator.result ≡ c.args.nodes = c.into_iter-item-iterator.ensures.into_iter_gives in
    let yielded = c.loop-item.invariant.items in
    let run = rw (source, yielded) at c.loop-item.yielded_by in
    let p = err_from_is_err_and c.from_residual.result c.from_residual.ensures.1 in
    let last = rw c.in_err-node.was at c.in-Some.ensures.steps in
    rw (p.1, p.2) (inr (c.loop-item.found.items, c.next.new.self, Yields-push steps (map (λ x. Ok x) c.loop-item.found.items) (Err c.in_err-node.field-0.0) c.args.nodes c.loop-item.item-iterator c.next.new.self run last))

pub returns-clause-nodes : goal.returns-clause-nodes
returns-clause-nodes g c =
    let source : c.into_iter-item-iterator.result ≡ c.args.nodes = c.into_iter-item-iterator.ensures.into_iter_gives in
    let yielded = c.loop-item.invariant.items in
    let run = rw (source, yielded) at c.loop-item.yielded_by in
    (c.next.new.self, (c.loop-item.item-iterator, run, c.in-None.ensures.steps))
