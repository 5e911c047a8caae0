use Rattle.std.proofs.Common.{rules, of_calls, ◌≡◌, ⊎_elim}
use Rattle.std.proofs.lemmas.Iterator.{YieldsList-from_slice}
use Rattle.std.proofs.lemmas.Result.{IfOk-weaker, IfErr-weaker}
use denote.Param.Always.{mut_total}
use Rattle.jj_dag.proofs.Walking.{drained_are}
use Rattle.jj_dag.proofs.Errors.{node_weaker}
use Rattle.jj_dag.proofs.Walkable.{walkable_by}
use Rattle.jj_walks_tests.specs.Commits.{ids_of}
use Rattle.jj_walks_tests.specs.Gaps.{IsGapIn}
use Rattle.jj_walks_tests.proofs.Numbering.{walk_starts, walk_stands, starts_are_nodes}
use Rattle.jj_walks_tests.proofs.Gaps.{walk_whole, whole_implemented, whole_maximal, gap_found}
use Rattle.jj_walks_tests.proofs.failing_callers.whole_tips.Goals as goal

pub heads-requires-clause-graph : goal.heads-requires-clause-graph
heads-requires-clause-graph c = walkable_by (search rules) (mut_total _ _ (λ s a. search rules)) (λ a r f h. (first_of (search rules, search (rules, of_calls, h)), search (rules, of_calls, h)))

pub returns-clause-tips : goal.returns-clause-tips
returns-clause-tips c =
    let commits = c.args.commits.now in
    IfOk-weaker c.heads.result _ _ (λ found p.
    let starts = walk_starts commits c.requires.once p.starts (drained_are (λ s r. r ≡ s) _ c.iter.result p.starts (λ y. y.now) commits (λ it b. YieldsList-from_slice _ (search (rules, c.iter.ensures, b))) p.yielded) in
    let k = p.holds (walk_whole commits)
    (whole_implemented commits _ _ _ _ (λ x i h. search (rules, h.says.met, h.shows))
    (λ a r f h. (search (rules, of_calls, h), search (rules, of_calls, h), search (rules, of_calls, h), search (rules, of_calls, h))))
    (rw starts (starts_are_nodes commits c.requires.once)) (rw starts c.requires.acyclic) (walk_stands commits) in
    whole_maximal commits c.requires.once found.keys (rw starts at k)) c.heads.ensures.heads

pub returns-clause-gap : goal.returns-clause-gap
returns-clause-gap c =
    let commits = c.args.commits.now in
    IfErr-weaker c.heads.result _ _ (λ failure. node_weaker failure _ (IsGapIn commits) (λ gap found.
    ⊎_elim (λ none. absurd none) (λ p.
    let q = p.reached in
    let starts = walk_starts commits c.requires.once q.starts (drained_are (λ s r. r ≡ s) _ c.iter.result q.starts (λ y. y.now) commits (λ it b. YieldsList-from_slice _ (search (rules, c.iter.ensures, b))) q.yielded) in
    let nodes = starts_are_nodes commits c.requires.once in
    let k = q.holds (walk_whole commits)
    (whole_implemented commits _ _ _ _ (λ x i h. search (rules, h.says.met, h.shows))
    (λ a r f h. (search (rules, of_calls, h), search (rules, of_calls, h), search (rules, of_calls, h), search (rules, of_calls, h))))
    (rw starts nodes) in
    gap_found commits _ _ (λ a r f h. (search (rules, of_calls, h), search (rules, of_calls, h)))
    (ids_of commits) nodes p.node gap p.fails (rw starts at k)) found)) c.heads.ensures.error
