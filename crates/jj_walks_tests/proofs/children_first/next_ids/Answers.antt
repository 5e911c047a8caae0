use Rattle.std.proofs.Common.{rules, of_calls, arith, refl, ⊎_elim}
use Rattle.std.proofs.lemmas.Grind.{common_steps}
use Rattle.std.proofs.lemmas.List.{map-id}
use Rattle.jj_dag.proofs.Errors.{if_fails, if_ok}
use Rattle.jj_dag.proofs.Walkable.{walkable_by}
use Rattle.jj_walks_tests.proofs.OkItems.{id_walk}
use Rattle.jj_walks_tests.proofs.ImplementedGraphs.{ids_implemented, no_id_may_fail}
use Rattle.jj_walks_tests.proofs.children_first.next_ids.Goals as goal

pub topo_order_reverse_chunked-requires : goal.topo_order_reverse_chunked-requires
topo_order_reverse_chunked-requires c = (
  search rules,
  (
    walkable_by (search rules) (first_of (search (rules, of_calls), search of_calls, grind (arith, common_steps))) (λ a r f h. (λ it b. (search rules, search rules), search (rules, of_calls, h))),
    search rules,
  ),
)

pub returns-clause-chunk : goal.returns-clause-chunk
returns-clause-chunk c =
    let commits = c.args.commits.now in
    if_ok c.topo_order_reverse_chunked.result c.topo_order_reverse_chunked.ensures.chunk (λ chunk p.
    let k = p.holds (id_walk commits) (ids_implemented commits _ _ _ _ (λ a r f h. (search (rules, of_calls, h), search (rules, of_calls, h))) (λ x i h. search (rules, of_calls, h.says.met, h.shows))) (λ a h. refl) in
    rw (p.yielded, map-id c.args.start.now.items, map-id chunk.items, map-id c.topo_order_reverse_chunked.new.start.items) at k)

pub returns-clause-cycle : goal.returns-clause-cycle
returns-clause-cycle c =
    let commits = c.args.commits.now in
    if_fails c.topo_order_reverse_chunked.result c.topo_order_reverse_chunked.ensures.error (λ error q. ⊎_elim
    (λ failed. absurd (no_id_may_fail commits failed.fails (λ a r f h. (search (rules, of_calls, h), search (rules, of_calls, h)))))
    (λ made.
    let k = made.holds.holds (id_walk commits) (ids_implemented commits _ _ _ _ (λ a r f h. (search (rules, of_calls, h), search (rules, of_calls, h))) (λ x i h. search (rules, of_calls, h.says.met, h.shows))) (λ a h. refl) in
    rw (made.holds.yielded, map-id c.args.start.now.items) at k.1)
    q)
