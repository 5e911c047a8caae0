use Rattle.std.proofs.Common.{rules, of_calls, ◌≡◌, map, subst, ⊎_elim}
use denote.Param.Always.{mut_total}
use Rattle.jj_dag.specs.Graph.{ReachedFrom, ReachesCycle}
use Rattle.jj_dag.proofs.Errors.{if_fails, if_ok}
use Rattle.jj_dag.proofs.ListNumbers.{number}
use Rattle.jj_dag.proofs.Walkable.{walkable_by}
use Rattle.jj_store_walks.proofs.Commits.{are_nodes, greatest_from, id_graph, node_of, order_from, starts_are, walk_of}
use Rattle.jj_store_walks.proofs.HistoryItems.{cycle_error, history_error_at, history_error_below, implements_items, items_error, items_read, may_read_items}
use Rattle.jj_store_walks.proofs.order.history_order.Goals as goal

pub topo_order_reverse_ord-requires-clause-graph : goal.topo_order_reverse_ord-requires-clause-graph
topo_order_reverse_ord-requires-clause-graph g c = walkable_by (search rules) (mut_total _ _ (λ s a. search rules)) (λ a r f h. (search (rules, of_calls, h), search (rules, of_calls, h)))

pub returns-clause-order : goal.returns-clause-order
returns-clause-order g c =
    let store = c.args.store.now in
    let may_fail = g.B.Backend.may_fail store in
    let objects = g.B.Backend.objects store in
    let ids = c.args.ids.now in
    if_ok c.topo_order_reverse_ord.result c.topo_order_reverse_ord.ensures.order (λ found k parents complete.
    let q = items_read may_fail objects ids _ c.commit_items.ensures k.starts k.yielded in
    let same : map (node_of may_fail objects) k.starts ≡ map number ids = starts_are may_fail objects q.0 k.starts ids q.1 q.2 q.3 in
    let holds = k.holds (walk_of may_fail objects parents)
    (implements_items may_fail objects _ _ _ _ (λ x i h. search (rules, h.says.met, h.shows)) (λ a r f h. (search (rules, of_calls, h), search (rules, of_calls, h))) parents complete)
    (are_nodes may_fail objects _ ids same) in
    order_from may_fail objects parents ids _ found.items same holds.child_first holds.no_cycle)

pub returns-clause-greatest : goal.returns-clause-greatest
returns-clause-greatest g c =
    let store = c.args.store.now in
    let may_fail = g.B.Backend.may_fail store in
    let objects = g.B.Backend.objects store in
    let ids = c.args.ids.now in
    if_ok c.topo_order_reverse_ord.result c.topo_order_reverse_ord.ensures.order (λ found k parents complete.
    let q = items_read may_fail objects ids _ c.commit_items.ensures k.starts k.yielded in
    let same : map (node_of may_fail objects) k.starts ≡ map number ids = starts_are may_fail objects q.0 k.starts ids q.1 q.2 q.3 in
    let holds = k.holds (walk_of may_fail objects parents)
    (implements_items may_fail objects _ _ _ _ (λ x i h. search (rules, h.says.met, h.shows)) (λ a r f h. (search (rules, of_calls, h), search (rules, of_calls, h))) parents complete)
    (are_nodes may_fail objects _ ids same) in
    greatest_from may_fail objects parents ids _ found.items same holds)

pub returns-clause-error : goal.returns-clause-error
returns-clause-error g c =
    let store = c.args.store.now in
    let may_fail = g.B.Backend.may_fail store in
    let objects = g.B.Backend.objects store in
    let ids = c.args.ids.now in
    if_fails c.topo_order_reverse_ord.result c.topo_order_reverse_ord.ensures.error (λ e. ⊎_elim
    (⊎_elim (λ fails. history_error_at may_fail objects ids e (items_error may_fail objects ids _ c.commit_items.ensures e fails))
    (λ p.
    let k = p.reached in
    history_error_below may_fail objects ids p.node e (λ parents complete.
    let q = items_read may_fail objects ids _ c.commit_items.ensures k.starts k.yielded in
    let same : map (node_of may_fail objects) k.starts ≡ map number ids = starts_are may_fail objects q.0 k.starts ids q.1 q.2 q.3 in
    subst (λ ns. ReachedFrom (id_graph parents) ns (node_of may_fail objects p.node)) same (k.holds (walk_of may_fail objects parents)
    (implements_items may_fail objects _ _ _ _ (λ x i h. search (rules, h.says.met, h.shows)) (λ a r f h. (search (rules, of_calls, h), search (rules, of_calls, h))) parents complete)
    (are_nodes may_fail objects _ ids same)))
    (may_read_items may_fail objects _ _ (λ a r f h. (search (rules, of_calls, h), search (rules, of_calls, h))) p.node e p.fails)))
    (λ p.
    let k = p.holds in
    cycle_error may_fail objects ids p.node e (search (rules, p.made_of)) (λ parents complete.
    let q = items_read may_fail objects ids _ c.commit_items.ensures k.starts k.yielded in
    let same : map (node_of may_fail objects) k.starts ≡ map number ids = starts_are may_fail objects q.0 k.starts ids q.1 q.2 q.3 in
    subst (λ ns. ReachedFrom (id_graph parents) ns (node_of may_fail objects p.node) × ReachesCycle (id_graph parents) ns) same (k.holds (walk_of may_fail objects parents)
    (implements_items may_fail objects _ _ _ _ (λ x i h. search (rules, h.says.met, h.shows)) (λ a r f h. (search (rules, of_calls, h), search (rules, of_calls, h))) parents complete)
    (are_nodes may_fail objects _ ids same)))))
