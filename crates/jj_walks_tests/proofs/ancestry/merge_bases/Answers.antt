use Rattle.std.proofs.Common.{rules, of_calls, ◌≡◌, ℕ, List, [], ◌∷◌, Result, Ok, Err, is_some, refl, sym, ◌∙◌, ap, map, true}
use Rattle.std.specs.Prelude.{IsOkAnd}
use Rattle.std.specs.Iterator.{YieldsFirstRef}
use Rattle.std.specs.List.{filter_map}
use Rattle.std.proofs.lemmas.Fn.{always_returns_same}
use Rattle.std.proofs.lemmas.Iterator.{YieldsList-from_slice}
use Rattle.std.proofs.lemmas.Iterator.Consumers.{YieldsList-from_first}
use Rattle.std.proofs.lemmas.Result.{IfOk-weaker}
use denote.Ref.{Bor}
use Rattle.jj_dag.specs.ClosureGraph.{YieldsOk}
use Rattle.jj_dag.specs.Walk.{DrainsTo}
use Rattle.jj_dag.proofs.Walking.{drained_are}
use Rattle.jj_dag.proofs.Walkable.{walkable_by}
use Rattle.jj_walks_tests.specs.declared.commits.Commit.{Commit}
use Rattle.jj_walks_tests.specs.declared.commits.Parents.{Parents}
use Rattle.jj_walks_tests.specs.Commits.{commit_with, ids_of, parents_in, parent_graph}
use Rattle.jj_walks_tests.specs.Parents.{parents_left}
use Rattle.jj_walks_tests.proofs.Numbering.{walk_of, walk_closed, walk_neighbors, set_starts, set_are_nodes, closest_ids, node, node_stands}
use Rattle.jj_walks_tests.proofs.ancestry.merge_bases.Goals as goal

-- a complete list of the parents of a node
lists_parents : (commits : List Commit) (x : Bor Commit) (r : Result Parents ℕ) (xs : List (Bor Commit)) → is_some (commit_with commits (node commits x)) ≡ true
    → IsOkAnd r (λ parents. (parents.commits.now ≡ commits) × (parents.ids.now ≡ x.now.parents.items))
    → YieldsOk (DrainsTo (λ s t. t ≡ s) (YieldsFirstRef parents_left)) r xs → map (node commits) xs ≡ parent_graph commits (node commits x)
lists_parents commits x (Ok list) xs here (same, ids) d =
    let left : parents_left list ≡ parents_in commits x.now = ap (λ cs. filter_map (commit_with cs) list.ids.now) same ∙ ap (filter_map (commit_with commits)) ids in
    walk_neighbors commits x xs here (drained_are (λ s t. t ≡ s) (YieldsFirstRef parents_left) list xs (λ y. y.now) (parents_in commits x.now) (λ it b. YieldsList-from_first (λ y. y.now) parents_left _ (ap parents_left b ∙ left)) d)
lists_parents commits x (Err e) xs here none d = absurd d

pub closest_common_nodes-requires-clause-graph : goal.closest_common_nodes-requires-clause-graph
closest_common_nodes-requires-clause-graph c = walkable_by (search rules) (search (rules, of_calls)) (λ a r f h. (first_of (search rules, search (rules, of_calls, h)), search (rules, of_calls, h)))

pub returns : goal.returns
returns c =
    let commits = c.args.commits.now in
    let set1 = c.args.set1.now in
    let set2 = c.args.set2.now in
    let nodes1 = set_are_nodes commits set1 c.requires.first in
    let nodes2 = set_are_nodes commits set2 c.requires.second in
    IfOk-weaker c.closest_common_nodes.result _ _ (λ bases p.
    let starts1 = set_starts commits set1 c.requires.first p.set1 (drained_are (λ s r. r ≡ s) _ c.iter.result p.set1 (λ y. y.now) set1 (λ it b. YieldsList-from_slice _ (search (rules, c.iter.ensures, b))) p.yielded1) in
    let starts2 = set_starts commits set2 c.requires.second p.set2 (drained_are (λ s r. r ≡ s) _ c.iter-2.result p.set2 (λ y. y.now) set2 (λ it b. YieldsList-from_slice _ (search (rules, c.iter-2.ensures, b))) p.yielded2) in
    let k = p.holds (walk_of commits)
    (record {
      closed = walk_closed commits;
      apart = λ i j a b. refl;
      ids_match = λ x i is h. let e : i.now ≡ x.now.id = search (rules, h.says.met, h.shows) in e ∙ node_stands commits x is;
      neighbors = always_returns_same _ _ _ (λ a r f h. (λ xs here d. lists_parents commits a.0.now r xs here (search (rules, of_calls, h)) d, search (rules, of_calls, h)));
    })
    (rw starts1 nodes1) (rw starts2 nodes2) (rw starts1 (λ a both round. c.requires.acyclic a both.0 round)) in
    closest_ids commits (ids_of set1) (ids_of set2) nodes1 bases.items (rw (starts1, starts2) at k)) c.closest_common_nodes.ensures.closest
