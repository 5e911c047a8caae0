use Rattle.std.proofs.Common.{rules, of_calls, ◌≡◌, ◌++◌, map}
use Rattle.std.proofs.lemmas.Iterator.Adapters.{YieldsList-from_vec}
use Rattle.std.proofs.lemmas.List.Elements.{Contains-append_left, Contains-append_right}
use denote.Param.Always.{mut_total}
use Rattle.jj_dag.proofs.Errors.{if_fails, if_ok}
use Rattle.jj_dag.proofs.ListNumbers.{number}
use Rattle.jj_dag.proofs.Walkable.{walkable_by}
use Rattle.jj_walks.proofs.Callers.{vec_drained}
use Rattle.jj_store_walks.proofs.Commits.{are_nodes, bases_from, error_at, error_below, implements, may_read, node_of, reached_from_both, starts_are, walk_of}
use Rattle.jj_store_walks.proofs.bases.merge_bases.Goals as goal

pub closest_common_nodes-requires-clause-graph : goal.closest_common_nodes-requires-clause-graph
closest_common_nodes-requires-clause-graph g c = walkable_by (search rules) (mut_total _ _ (λ s a. search rules)) (λ a r f h. (first_of (search rules, search (rules, of_calls, h)), search (rules, of_calls, h)))

pub returns-clause-bases : goal.returns-clause-bases
returns-clause-bases g c =
    let store = c.args.store.now in
    let may_fail = g.B.Backend.may_fail store in
    let objects = g.B.Backend.objects store in
    let set1 = c.args.set1.now in
    let set2 = c.args.set2.now in
    if_ok c.closest_common_nodes.result c.closest_common_nodes.ensures.closest (λ found k parents complete none.
    let first : map (node_of may_fail objects) k.set1 ≡ map number set1 =
    starts_are may_fail objects c.in-Ok.commits k.set1 set1 (vec_drained c.in-Ok.commits k.set1 (k.yielded1.0, (k.yielded1.1.0, k.yielded1.1.1), k.yielded1.2)) c.in-Ok.ensures.ids c.in-Ok.ensures.stored in
    let second : map (node_of may_fail objects) k.set2 ≡ map number set2 =
    starts_are may_fail objects c.in-Ok-read_all.commits k.set2 set2 (vec_drained c.in-Ok-read_all.commits k.set2 (k.yielded2.0, (k.yielded2.1.0, k.yielded2.1.1), k.yielded2.2)) c.in-Ok-read_all.ensures.ids c.in-Ok-read_all.ensures.stored in
    bases_from may_fail objects parents set1 set2 _ _ found.items first second none
    (k.holds (walk_of may_fail objects parents)
    (implements may_fail objects _ _ (λ v it b. YieldsList-from_vec v.items (search (rules, b)) (search (rules, b))) _ _ _ _ (λ x i h. search (rules, h.says.met, h.shows))
    (λ a r f h. ((search (rules, of_calls, h), search (rules, of_calls, h), search (rules, of_calls, h)), search (rules, of_calls, h))) parents complete)
    (are_nodes may_fail objects _ set1 first) (are_nodes may_fail objects _ set2 second)))

pub returns-clause-error : goal.returns-clause-error
returns-clause-error g c =
    let store = c.args.store.now in
    let may_fail = g.B.Backend.may_fail store in
    let objects = g.B.Backend.objects store in
    let set1 = c.args.set1.now in
    let set2 = c.args.set2.now in
    if_fails c.closest_common_nodes.result c.closest_common_nodes.ensures.error (λ e p.
    let k = p.reached in
    error_below may_fail objects (set1 ++ set2) p.node e (λ parents complete.
    let first : map (node_of may_fail objects) k.set1 ≡ map number set1 =
    starts_are may_fail objects c.in-Ok.commits k.set1 set1 (vec_drained c.in-Ok.commits k.set1 (k.yielded1.0, (k.yielded1.1.0, k.yielded1.1.1), k.yielded1.2)) c.in-Ok.ensures.ids c.in-Ok.ensures.stored in
    let second : map (node_of may_fail objects) k.set2 ≡ map number set2 =
    starts_are may_fail objects c.in-Ok-read_all.commits k.set2 set2 (vec_drained c.in-Ok-read_all.commits k.set2 (k.yielded2.0, (k.yielded2.1.0, k.yielded2.1.1), k.yielded2.2)) c.in-Ok-read_all.ensures.ids c.in-Ok-read_all.ensures.stored in
    reached_from_both may_fail objects parents set1 set2 _ _ (node_of may_fail objects p.node) first second
    (k.holds (walk_of may_fail objects parents)
    (implements may_fail objects _ _ (λ v it b. YieldsList-from_vec v.items (search (rules, b)) (search (rules, b))) _ _ _ _ (λ x i h. search (rules, h.says.met, h.shows))
    (λ a r f h. ((search (rules, of_calls, h), search (rules, of_calls, h), search (rules, of_calls, h)), search (rules, of_calls, h))) parents complete)
    (are_nodes may_fail objects _ set1 first) (are_nodes may_fail objects _ set2 second)))
    (may_read may_fail objects _ _ (λ a r f h. ((search (rules, of_calls, h), search (rules, of_calls, h), search (rules, of_calls, h)), search (rules, of_calls, h))) p.node e p.fails))

pub returns-in-Err-read_all-clause-error : goal.returns-in-Err-read_all-clause-error
returns-in-Err-read_all-clause-error g c =
    let store = c.args.store.now in
    let set1 = c.args.set1.now in
    let set2 = c.args.set2.now in
    error_at (g.B.Backend.may_fail store) (g.B.Backend.objects store) set2 (set1 ++ set2) c.in-Err-read_all.error (λ id inside. Contains-append_right set1 set2 id inside) c.in-Err-read_all.ensures.error

pub returns-in-Err-clause-error : goal.returns-in-Err-clause-error
returns-in-Err-clause-error g c =
    let store = c.args.store.now in
    let set1 = c.args.set1.now in
    let set2 = c.args.set2.now in
    error_at (g.B.Backend.may_fail store) (g.B.Backend.objects store) set1 (set1 ++ set2) c.in-Err.error (λ id inside. Contains-append_left set1 set2 id inside) c.in-Err.ensures.error
