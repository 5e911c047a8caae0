use Rattle.std.proofs.Common.{rules, of_calls, ◌≡◌}
use Rattle.std.proofs.lemmas.Iterator.{YieldsList-from_slice}
use Rattle.std.proofs.lemmas.Result.{IfOk-weaker, IfErr-weaker}
use denote.Param.Always.{mut_total}
use Rattle.jj_dag.proofs.Walking.{drained_are}
use Rattle.jj_dag.proofs.Walkable.{walkable_by}
use Rattle.jj_walks_tests.proofs.Numbering.{walk_of, walk_starts, starts_are_nodes}
use Rattle.jj_dag.proofs.Errors.{node_weaker}
use Rattle.jj_walks_tests.proofs.Ordered.{ordered, on_cycle}
use Rattle.jj_walks_tests.proofs.Showing.{parents_implemented}
use Rattle.jj_walks_tests.proofs.ancestry.parents_first.Goals as goal

pub topo_order_forward-requires-clause-graph : goal.topo_order_forward-requires-clause-graph
topo_order_forward-requires-clause-graph c = walkable_by (search rules) (mut_total _ _ (λ s a. search rules)) (λ a r f h. (λ it b. (search rules, search rules), search (rules, of_calls, h)))

pub returns-clause-order : goal.returns-clause-order
returns-clause-order c =
    let commits = c.args.commits.now in
    IfOk-weaker c.topo_order_forward.result _ _ (λ order p.
    let starts = walk_starts commits c.requires p.starts (drained_are (λ s r. r ≡ s) _ c.iter.result p.starts (λ y. y.now) commits (λ it b. YieldsList-from_slice _ (search (rules, c.iter.ensures, b))) p.yielded) in
    let k = p.holds (walk_of commits)
    (parents_implemented commits _ _ _ _ (λ x i h. search (rules, h.says.met, h.shows)) (λ a r f h. (search (rules, of_calls, h), search (rules, of_calls, h), search (rules, of_calls, h))))
    (rw starts (starts_are_nodes commits c.requires)) in
    let found = rw starts at k in
    ordered commits c.requires order.items found.postorder found.no_cycle) c.topo_order_forward.ensures.order

pub returns-clause-cycle : goal.returns-clause-cycle
returns-clause-cycle c =
    let commits = c.args.commits.now in
    IfErr-weaker c.topo_order_forward.result _ _ (λ failure k. node_weaker failure _ _ (λ error p.
    let starts = walk_starts commits c.requires p.on_cycle.starts (drained_are (λ s r. r ≡ s) _ c.iter.result p.on_cycle.starts (λ y. y.now) commits (λ it b. YieldsList-from_slice _ (search (rules, c.iter.ensures, b))) p.on_cycle.yielded) in
    let k = p.on_cycle.holds (walk_of commits)
    (parents_implemented commits _ _ _ _ (λ x i h. search (rules, h.says.met, h.shows)) (λ a r f h. (search (rules, of_calls, h), search (rules, of_calls, h), search (rules, of_calls, h))))
    (rw starts (starts_are_nodes commits c.requires)) in
    let e : error ≡ p.node.now.id = search (rules, of_calls, p.made_of) in
    on_cycle commits c.requires p.node error e (rw starts at k)) k) c.topo_order_forward.ensures.cycle
