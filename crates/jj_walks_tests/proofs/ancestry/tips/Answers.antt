use Rattle.std.proofs.Common.{rules, of_calls, ◌≡◌}
use Rattle.std.proofs.lemmas.Iterator.{YieldsList-from_slice}
use Rattle.std.proofs.lemmas.Result.{IfOk-weaker}
use Rattle.jj_dag.proofs.Walking.{drained_are}
use Rattle.jj_dag.proofs.Walkable.{walkable_by}
use Rattle.jj_walks_tests.proofs.Numbering.{walk_of, walk_starts, walk_stands, starts_are_nodes, maximal_ids}
use Rattle.jj_walks_tests.proofs.Showing.{parents_implemented}
use Rattle.jj_walks_tests.proofs.ancestry.tips.Goals as goal

pub heads-requires-clause-graph : goal.heads-requires-clause-graph
heads-requires-clause-graph c = walkable_by (search rules) (search (rules, of_calls)) (λ a r f h. (λ it b. (search rules, search rules), search (rules, of_calls, h)))

pub returns : goal.returns
returns c =
    let commits = c.args.commits.now in
    IfOk-weaker c.heads.result _ _ (λ found p.
    let starts = walk_starts commits c.requires.once p.starts (drained_are (λ s r. r ≡ s) _ c.iter.result p.starts (λ y. y.now) commits (λ it b. YieldsList-from_slice _ (search (rules, c.iter.ensures, b))) p.yielded) in
    let k = p.holds (walk_of commits)
    (parents_implemented commits _ _ _ _ (λ x i h. search (rules, h.says.met, h.shows)) (λ a r f h. (search (rules, of_calls, h), search (rules, of_calls, h), search (rules, of_calls, h))))
    (rw starts (starts_are_nodes commits c.requires.once)) (rw starts c.requires.acyclic) (walk_stands commits) in
    maximal_ids commits c.requires.once found.keys (rw starts at k)) c.heads.ensures.heads
