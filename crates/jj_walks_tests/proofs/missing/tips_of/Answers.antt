use Rattle.std.proofs.Common.{rules, of_calls}
use Rattle.jj_dag.proofs.Errors.{if_fails, if_ok}
use Rattle.jj_dag.proofs.Walkable.{walkable_by}
use Rattle.jj_walks_tests.proofs.LookedUpCommits.{drained_known, lookups_implemented, maximal_known, missing_input, of_known, parent_missing, start_missing}
use Rattle.jj_walks_tests.proofs.Numbering.{walk_stands}
use Rattle.jj_walks_tests.proofs.missing.tips_of.Goals as goal

pub heads_ok-requires-clause-graph : goal.heads_ok-requires-clause-graph
heads_ok-requires-clause-graph c = walkable_by (search rules) (search (rules, of_calls)) (λ a r f h. (λ it b. (search rules, search rules), search (rules, of_calls, h)))

pub returns-clause-tips : goal.returns-clause-tips
returns-clause-tips c =
    let commits = c.args.commits.now in
    let ids = c.args.ids.now in
    let s = c.look_up in
    if_ok c.heads_ok.result c.heads_ok.ensures.heads (λ found k.
    maximal_known commits ids found.keys (of_known commits ids
    (lookups_implemented commits _ _ _ _ (λ x i h. search (rules, h.says.met, h.shows)) (λ a r f h. (search (rules, of_calls, h), search (rules, of_calls, h), search (rules, of_calls, h))))
    (λ xs d. drained_known commits ids s.result s.ensures.commits s.ensures.ids xs d) k c.requires (walk_stands commits)))

pub returns-clause-missing : goal.returns-clause-missing
returns-clause-missing c =
    let commits = c.args.commits.now in
    let ids = c.args.ids.now in
    let s = c.look_up in
    if_fails c.heads_ok.result c.heads_ok.ensures.error (λ id k.
    missing_input commits ids
    (lookups_implemented commits _ _ _ _ (λ x i h. search (rules, h.says.met, h.shows)) (λ a r f h. (search (rules, of_calls, h), search (rules, of_calls, h), search (rules, of_calls, h))))
    (λ xs d. drained_known commits ids s.result s.ensures.commits s.ensures.ids xs d) id (λ failed. start_missing commits ids s.result s.ensures.commits s.ensures.ids id failed)
    (λ x fails reached. parent_missing commits _ _ (λ a r f h. (search (rules, of_calls, h), search (rules, of_calls, h), search (rules, of_calls, h))) ids x id fails reached) k)
