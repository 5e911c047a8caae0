use Rattle.std.proofs.Common.{rules, of_calls}
use Rattle.jj_dag.proofs.Errors.{if_ok}
use Rattle.jj_dag.proofs.Walkable.{walkable_by}
use Rattle.jj_walks_tests.proofs.KnownAncestors.{drained_items, known_by_run}
use Rattle.jj_walks_tests.proofs.missing.known_ancestors.Goals as goal

pub collect_dfs_ok-requires-clause-graph : goal.collect_dfs_ok-requires-clause-graph
collect_dfs_ok-requires-clause-graph c = walkable_by (search rules) (search (rules, of_calls)) (λ a r f h. (λ it b. (search rules, search rules), search (rules, of_calls, h)))

pub returns : goal.returns
returns c =
    let commits = c.args.commits.now in
    let ids = c.args.ids.now in
    if_ok c.collect_dfs_ok.result c.collect_dfs_ok.ensures (λ found (starts, yielded, run).
    known_by_run commits _ _ _ _ ids starts found.items run (λ x i h. search (rules, h.says.met, h.shows)) (λ a r f h. (search (rules, of_calls, h), search (rules, of_calls, h), search (rules, of_calls, h)))
    (drained_items commits ids c.look_up.result c.look_up.ensures.commits c.look_up.ensures.ids starts yielded))
