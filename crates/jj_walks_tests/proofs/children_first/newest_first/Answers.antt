use Rattle.std.proofs.Common.{rules, of_calls, ◌≡◌, ◌∙◌, ap, map, Ok}
use Rattle.jj_dag.specs.Walk.{AreNodes}
use Rattle.jj_dag.proofs.Errors.{if_fails, if_ok}
use Rattle.jj_dag.proofs.GreatestOrders.{greatest_numbers}
use Rattle.jj_dag.proofs.Walkable.{walkable_by}
use Rattle.jj_walks_tests.specs.Commits.{known_ids}
use Rattle.jj_walks_tests.proofs.Numbering.{walk_of, walk_closed}
use Rattle.jj_walks_tests.proofs.OkItems.{drained_starts, known_are_nodes, never_fails}
use Rattle.jj_walks_tests.proofs.ImplementedGraphs.{beside_cycle, commits_implemented, no_commit_fails, past_starts, renumbered_implemented}
use Rattle.jj_dag.proofs.Renumbered.{renumbered_nodes}
use Rattle.jj_walks_tests.proofs.Newest.{back, commits_compare, free, newest_ids, ranked_walk, ranks_are, to, undo, unused}
use Rattle.jj_walks_tests.proofs.children_first.newest_first.Goals as goal

pub topo_order_reverse_ord-requires-clause-graph : goal.topo_order_reverse_ord-requires-clause-graph
topo_order_reverse_ord-requires-clause-graph c = walkable_by (search rules) (search (rules, of_calls)) (λ a r f h. (λ it b. (search rules, search rules), search (rules, of_calls, h)))

pub returns-clause-order : goal.returns-clause-order
returns-clause-order c =
    let commits = c.args.commits.now in
    let ids = c.args.ids.now in
    let nodes = known_are_nodes commits ids in
    if_ok c.topo_order_reverse_ord.result c.topo_order_reverse_ord.ensures.order (λ order p.
    let yielded = drained_starts commits ids c.ok_commits.result p.starts c.ok_commits.ensures.commits c.ok_commits.ensures.ids p.yielded in
    let implemented = commits_implemented commits _ _ _ _ (λ a r f h. (search (rules, of_calls, h), search (rules, of_calls, h), search (rules, of_calls, h))) (λ x i h. search (rules, of_calls, h.says.met, h.shows)) in
    let first = p.holds (walk_of commits) implemented (rw yielded nodes) in
    let starts : map (ranked_walk commits).node p.starts ≡ map (to commits) (known_ids commits ids) = ranks_are commits p.starts (rw yielded nodes) ∙ ap (map (to commits)) yielded in
    let renumbered = renumbered_implemented (walk_of commits) (to commits) (back commits) (unused commits) (undo commits) (free commits) _ _ _ _ implemented in
    let ranked_nodes : AreNodes (ranked_walk commits) (map (ranked_walk commits).node p.starts) = rw starts (renumbered_nodes (walk_of commits) (to commits) (back commits) (unused commits) (undo commits) (free commits) (walk_closed commits) (known_ids commits ids) nodes) in
    let ranked = p.holds (ranked_walk commits) renumbered ranked_nodes in
    let greatest = greatest_numbers _ (ranked_walk commits) _ order.items ranked (commits_compare commits) in
    newest_ids commits (known_ids commits ids) nodes order.items (rw yielded at first.child_first) (rw starts at greatest))

pub returns-clause-cycle : goal.returns-clause-cycle
returns-clause-cycle c =
    let commits = c.args.commits.now in
    let ids = c.args.ids.now in
    let starts = c.ok_commits.result in
    if_fails c.topo_order_reverse_ord.result c.topo_order_reverse_ord.ensures.error (λ error q.
    beside_cycle commits (past_starts q (λ (xs, begins). never_fails commits ids starts (map (λ x. Ok x) xs) error c.ok_commits.ensures.commits c.ok_commits.ensures.ids begins)) ids
    (λ xs drained. drained_starts commits ids starts xs c.ok_commits.ensures.commits c.ok_commits.ensures.ids drained)
    (λ x failed. no_commit_fails commits failed (λ a r f h. (search (rules, of_calls, h), search (rules, of_calls, h), search (rules, of_calls, h)))) (commits_implemented commits _ _ _ _ (λ a r f h. (search (rules, of_calls, h), search (rules, of_calls, h), search (rules, of_calls, h))) (λ x i h. search (rules, of_calls, h.says.met, h.shows))))
