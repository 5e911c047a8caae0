use Rattle.std.proofs.Common.{rules, of_calls, ◌≡◌, [], ◌∙◌, ap, map}
use Rattle.std.specs.List.{filter_map}
use Rattle.std.proofs.lemmas.Iterator.Consumers.{YieldsList-from_first}
use Rattle.std.proofs.lemmas.Result.{IfOk-weaker}
use Rattle.jj_walks.proofs.DfsRuns.{IsPreorder-from_drains}
use Rattle.jj_dag.proofs.Walking.{drained_are}
use Rattle.jj_dag.proofs.Walkable.{walkable_by}
use Rattle.jj_walks_tests.specs.Commits.{commit_with, known_ids}
use Rattle.jj_walks_tests.specs.Parents.{parents_left}
use Rattle.jj_walks_tests.proofs.Numbering.{walk_of, node}
use Rattle.jj_walks_tests.proofs.OkItems.{known_starts, known_are_nodes, preorder_ids}
use Rattle.jj_walks_tests.proofs.Showing.{parents_implemented}
use Rattle.jj_walks_tests.proofs.ancestry.ancestors.Goals as goal

pub dfs-requires-clause-graph : goal.dfs-requires-clause-graph
dfs-requires-clause-graph c = walkable_by (search rules) (search (rules, of_calls)) (λ a r f h. (λ it b. (search rules, search rules), search (rules, of_calls, h)))

pub returns : goal.returns
returns c =
    let commits = c.args.commits.now in
    let ids = c.args.ids.now in
    let p = c.in_ok-walk.ensures.walk in
    let listed : parents_left c.commits_of.result ≡ filter_map (commit_with commits) ids =
    ap (λ cs. filter_map (commit_with cs) c.commits_of.result.ids.now) c.commits_of.ensures.commits ∙ ap (filter_map (commit_with commits)) c.commits_of.ensures.ids in
    let yielded = known_starts commits ids p.starts (drained_are (λ s r. r ≡ s) _ c.commits_of.result p.starts (λ y. y.now) (filter_map (commit_with commits) ids) (λ it b. YieldsList-from_first (λ y. y.now) parents_left _ (ap parents_left b ∙ listed)) p.yielded) in
    let k = p.holds (walk_of commits)
    (parents_implemented commits _ _ _ _ (λ x i h. search (rules, h.says.met, h.shows)) (λ a r f h. (search (rules, of_calls, h), search (rules, of_calls, h), search (rules, of_calls, h))))
    (rw yielded (known_are_nodes commits ids)) in
    IfOk-weaker c.collect_fallible.result _ _ (λ found drains.
    let all = IsPreorder-from_drains _ _ (walk_of commits) _ _ _ _ _ (map (node commits) p.starts) found.items [] c.in_ok-walk.walk k drains in
    preorder_ids commits (known_ids commits ids) (known_are_nodes commits ids) found.items (rw yielded at all)) c.collect_fallible.ensures
