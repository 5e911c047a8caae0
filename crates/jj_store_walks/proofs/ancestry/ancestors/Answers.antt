use Rattle.std.proofs.Common.{rules, of_calls, List, sym, subst}
use Rattle.std.proofs.lemmas.Result.{IfOk-weaker}
use denote.Param.Always.{mut_total}
use Rattle.jj_dag.proofs.Walkable.{walkable_by}
use Rattle.jj_store_walks.specs.ReadResults.{AreReads}
use Rattle.jj_store_walks.proofs.FoundAncestors.{drained, found_by_run}
use Rattle.jj_store_walks.proofs.ReadResults.{Item}
use Rattle.jj_store_walks.proofs.ancestry.ancestors.Goals as goal

pub collect_dfs_ok-requires-clause-graph : goal.collect_dfs_ok-requires-clause-graph
collect_dfs_ok-requires-clause-graph g c = walkable_by (search rules) (mut_total _ _ (λ s a. search rules)) (λ a r f h. (λ it b. (search rules, search rules), search (rules, of_calls, h)))

pub returns : goal.returns
returns g c =
    let may_fail = g.B.Backend.may_fail c.args.store.now in
    let objects = g.B.Backend.objects c.args.store.now in
    let ids = c.args.ids.now in
    IfOk-weaker c.collect_dfs_ok.result _ _ (λ found (starts, yielded, run).
    found_by_run may_fail objects _ _ _ _ ids starts found.items run (λ x i h. search (rules, h.says.met, h.shows)) (λ a r f h. (search (rules, of_calls, h), search (rules, of_calls, h)))
    (subst (λ (l : List Item). AreReads may_fail objects ids l) (sym (drained c.read_each.result starts yielded)) c.read_each.ensures)) c.collect_dfs_ok.ensures
