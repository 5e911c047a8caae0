use Rattle.std.proofs.Common.{rules, of_calls}
use Rattle.jj_dag.proofs.Errors.{if_fails, if_ok}
use Rattle.jj_dag.proofs.Walkable.{walkable_by}
use Rattle.jj_walks_tests.proofs.LookedUpCommits.{drained_known, lookups_implemented, missing_or_cycle, of_known, parent_missing, postorder_known, start_missing}
use Rattle.jj_walks_tests.proofs.missing.ancestors_first.Goals as goal

pub topo_order_forward_ok-requires-clause-graph : goal.topo_order_forward_ok-requires-clause-graph
topo_order_forward_ok-requires-clause-graph c = walkable_by (search rules) (search (rules, of_calls)) (λ a r f h. (λ it b. (search rules, search rules), search (rules, of_calls, h)))

pub returns-clause-order : goal.returns-clause-order
returns-clause-order c =
    let commits = c.args.commits.now in
    let ids = c.args.ids.now in
    let s = c.look_up in
    if_ok c.topo_order_forward_ok.result c.topo_order_forward_ok.ensures.order (λ order k.
    postorder_known commits ids order.items (of_known commits ids
    (lookups_implemented commits _ _ _ _ (λ x i h. search (rules, h.says.met, h.shows)) (λ a r f h. (search (rules, of_calls, h), search (rules, of_calls, h), search (rules, of_calls, h))))
    (λ xs d. drained_known commits ids s.result s.ensures.commits s.ensures.ids xs d) k))

pub returns-clause-error : goal.returns-clause-error
returns-clause-error c =
    let commits = c.args.commits.now in
    let ids = c.args.ids.now in
    let s = c.look_up in
    if_fails c.topo_order_forward_ok.result c.topo_order_forward_ok.ensures.error (λ id k.
    missing_or_cycle commits ids
    (lookups_implemented commits _ _ _ _ (λ x i h. search (rules, h.says.met, h.shows)) (λ a r f h. (search (rules, of_calls, h), search (rules, of_calls, h), search (rules, of_calls, h))))
    (λ xs d. drained_known commits ids s.result s.ensures.commits s.ensures.ids xs d) id (λ x made. search (rules, of_calls, made)) (λ failed. start_missing commits ids s.result s.ensures.commits s.ensures.ids id failed)
    (λ x fails reached. parent_missing commits _ _ (λ a r f h. (search (rules, of_calls, h), search (rules, of_calls, h), search (rules, of_calls, h))) ids x id fails reached) k)
