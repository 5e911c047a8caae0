use Rattle.std.proofs.Common.{rules, of_calls, ◌∙◌, ap, map}
use Rattle.std.proofs.lemmas.Result.{err_from_is_err_and}
use Rattle.jj_dag.proofs.Errors.{node_weaker}
use Rattle.jj_walks.proofs.LazyRuns.{IsTopologicalOrder-from_drains, IsCause-from_yields}
use Rattle.jj_dag.proofs.Walkable.{walkable_by}
use Rattle.jj_walks_tests.specs.Commits.{known_ids}
use Rattle.jj_walks_tests.proofs.Numbering.{node}
use Rattle.jj_walks_tests.proofs.OkItems.{known_are_nodes, child_first_ids}
use Rattle.jj_walks_tests.proofs.ImplementedGraphs.{beside_cycle, known_rest, of_commits}
use Rattle.jj_walks_tests.proofs.children_first.children_first.Goals as goal

pub topo_order_reverse_lazy-requires-clause-graph : goal.topo_order_reverse_lazy-requires-clause-graph
topo_order_reverse_lazy-requires-clause-graph c = walkable_by (search rules) (search (rules, of_calls)) (λ a r f h. (λ it b. (search rules, search rules), search (rules, of_calls, h)))

pub loop-item-init : goal.loop-item-init
loop-item-init c = record { can = rw c.into_iter-item-iterator.ensures.into_iter_gives (λ _. c.in_ok-walk.ensures.can_go); nodes = rw c.new-order.ensures.items }

pub returns-clause-order : goal.returns-clause-order
returns-clause-order c =
    let commits = c.args.commits.now in
    let ids = c.args.ids.now in
    let rest = known_rest commits ids c.ok_commits.result c.ok_commits.ensures.commits c.ok_commits.ensures.ids c.in_ok-walk.ensures.left
    (λ a r f h. (search (rules, of_calls, h), search (rules, of_calls, h), search (rules, of_calls, h))) (λ x i h. search (rules, of_calls, h.says.met, h.shows)) in
    let run = rw (c.into_iter-item-iterator.ensures.into_iter_gives, c.loop-item.invariant.nodes) at c.loop-item.yielded_by in
    let all = IsTopologicalOrder-from_drains _ _ _ _ _ _ c.loop-item.order.items c.in_ok-walk.walk c.in_ok-walk.ensures.has_ended rest.2 (c.next.new.self, (c.loop-item.item-iterator, run, c.in-None.ensures.steps)) in
    let order = of_commits commits ids (λ xs same. ap (map (node commits)) same ∙ rest.1) all rest.3 in
    child_first_ids commits (known_ids commits ids) (known_are_nodes commits ids) c.loop-item.order.items order.0

pub returns-in_err-commit-clause-cycle : goal.returns-in_err-commit-clause-cycle
returns-in_err-commit-clause-cycle c =
    let commits = c.args.commits.now in
    let ids = c.args.ids.now in
    let rest = known_rest commits ids c.ok_commits.result c.ok_commits.ensures.commits c.ok_commits.ensures.ids c.in_ok-walk.ensures.left
    (λ a r f h. (search (rules, of_calls, h), search (rules, of_calls, h), search (rules, of_calls, h))) (λ x i h. search (rules, of_calls, h.says.met, h.shows)) in
    let run = rw (c.into_iter-item-iterator.ensures.into_iter_gives, c.loop-item.invariant.nodes) at c.loop-item.yielded_by in
    let step = rw c.in_err-commit.was at c.in-Some.ensures.steps in
    let all = IsCause-from_yields _ _ _ _ _ _ c.loop-item.order.items c.in_err-commit.field-0.0 c.in_ok-walk.walk c.loop-item.item-iterator c.next.new.self c.in_ok-walk.ensures.has_ended rest.2 run step in
    let p = err_from_is_err_and c.from_residual-in_err-commit.result c.from_residual-in_err-commit.ensures.1 in
    rw (p.1, p.2) (node_weaker c.in_err-commit.field-0.0 _ _ (λ error q.
    beside_cycle commits q ids (λ xs same. ap (map (node commits)) same ∙ rest.1) (λ x failed. rest.4 x error failed) rest.3) all)
