-- Iterators over commits whose items never fail.
use Rattle.std.proofs.Common.{◌≡◌, ℕ, true, List, [], ◌∷◌, ◌++◌, map, refl, ◌∙◌, ap, subst, Result, Ok, Err, reverse, inl, inr, ◌⊎◌}
use Rattle.std.specs.Iterator.{YieldsFirstBy}
use Rattle.std.specs.List.{Contains, filter_map}
use Rattle.std.proofs.lemmas.Iterator.Consumers.{YieldsList-from_first}
use denote.Ref.{Bor}
use Rattle.jj_dag.specs.FallibleGraphs.{BeginsWith}
use Rattle.jj_dag.specs.Walk.{GraphModel, AreNodes, DrainsTo}
use Rattle.jj_dag.specs.Graph.{IsTopologicalOrder, IsPreorder, ReachedFrom}
use Rattle.jj_dag.proofs.Collecting.{are_nodes}
use Rattle.jj_dag.proofs.FailingWalks.{begun_are}
use Rattle.jj_dag.proofs.Postorders.{from_reverse}
use Rattle.jj_dag.proofs.Relabelled.{Contains-map}
use Rattle.jj_dag.proofs.Walking.{drained_are}
use Rattle.jj_walks_tests.specs.declared.commits.Commit.{Commit}
use Rattle.jj_walks_tests.specs.declared.commits.OkCommits.{OkCommits}
use Rattle.jj_walks_tests.specs.Commits.{commit_with, known_ids, parent_graph}
use Rattle.jj_walks_tests.specs.Parents.{value_of_item, items_left}
use Rattle.jj_walks.proofs.Preorders.{Preorder-reached}
use Rattle.jj_walks_tests.proofs.Numbering.{walk_of, node, node_has, parents_had, ids_are, set_are_nodes, set_starts, walk_closed}
use Rattle.jj_dag.proofs.Plain.{nothing}

abbrev pub becomes : OkCommits → OkCommits → Type 0
becomes s t = t ≡ s

-- the items of these are the commits of the ids
pub commits_drained : (commits : List Commit) (ids : List ℕ) (value : OkCommits) (xs : List (Result (Bor Commit) ℕ)) → value.found.commits.now ≡ commits → value.found.ids.now ≡ ids
    → DrainsTo becomes (YieldsFirstBy value_of_item items_left) value xs → map value_of_item xs ≡ map {B = Result Commit ℕ} (λ c. Ok c) (filter_map (commit_with commits) ids)
commits_drained commits ids value xs same list d =
    let left : items_left value ≡ map {B = Result Commit ℕ} (λ c. Ok c) (filter_map (commit_with commits) ids) =
    ap (λ cs. map {B = Result Commit ℕ} (λ c. Ok c) (filter_map (commit_with cs) value.found.ids.now)) same ∙ ap (λ is. map {B = Result Commit ℕ} (λ c. Ok c) (filter_map (commit_with commits) is)) list in
    drained_are becomes (YieldsFirstBy value_of_item items_left) value xs value_of_item (map {B = Result Commit ℕ} (λ c. Ok c) (filter_map (commit_with commits) ids))
    (λ it b. YieldsList-from_first value_of_item items_left _ (ap items_left b ∙ left)) d

pub shown_are : (xs : List (Bor Commit)) (cs : List Commit) → map value_of_item (map (λ x. Ok x) xs) ≡ map (λ c. Ok c) cs → map (λ x. x.now) xs ≡ cs
shown_are [] [] e = refl
shown_are [] (c ∷ cs) e = absurd cc
shown_are (x ∷ xs) [] e = absurd cc
shown_are (x ∷ xs) (c ∷ cs) e =
    let first : x.now ≡ c = cc in
    let rest : map value_of_item (map (λ y. Ok y) xs) ≡ map (λ d. Ok d) cs = cc in
    ap (λ d. d ∷ map (λ y. y.now) xs) first ∙ ap (λ l. c ∷ l) (shown_are xs cs rest)

-- no item of a list of sound items fails
none_failed : (front : List (Result (Bor Commit) ℕ)) (e : ℕ) (rest : List (Result Commit ℕ)) (cs : List Commit) → map (λ c. Ok c) cs ≡ map value_of_item (front ++ Err e ∷ []) ++ rest → ⊥
none_failed [] e rest [] h = cc
none_failed [] e rest (c ∷ cs) h = cc
none_failed (x ∷ front) e rest [] h = cc
none_failed (x ∷ front) e rest (c ∷ cs) h =
    let tail : map (λ d. Ok d) cs ≡ map value_of_item (front ++ Err e ∷ []) ++ rest = cc in
    none_failed front e rest cs tail

pub never_fails : (commits : List Commit) (ids : List ℕ) (value : OkCommits) (xs : List (Result (Bor Commit) ℕ)) (e : ℕ) → value.found.commits.now ≡ commits → value.found.ids.now ≡ ids
    → BeginsWith becomes (YieldsFirstBy value_of_item items_left) value (xs ++ Err e ∷ []) → ⊥
never_fails commits ids value xs e same list d =
    let left : items_left value ≡ map {B = Result Commit ℕ} (λ c. Ok c) (filter_map (commit_with commits) ids) =
    ap (λ cs. map {B = Result Commit ℕ} (λ c. Ok c) (filter_map (commit_with cs) value.found.ids.now)) same ∙ ap (λ is. map {B = Result Commit ℕ} (λ c. Ok c) (filter_map (commit_with commits) is)) list in
    let begun = begun_are becomes (YieldsFirstBy value_of_item items_left) value (xs ++ Err e ∷ []) value_of_item (map {B = Result Commit ℕ} (λ c. Ok c) (filter_map (commit_with commits) ids))
    (λ it b. YieldsList-from_first value_of_item items_left _ (ap items_left b ∙ left)) d in
    none_failed xs e begun.0 (filter_map (commit_with commits) ids) begun.1

module _ (commits : List Commit) where
  -- the commits of some ids, as starts
  pub known_starts : (ids : List ℕ) (xs : List (Bor Commit)) → map (λ y. y.now) xs ≡ filter_map (commit_with commits) ids → map (node commits) xs ≡ known_ids commits ids
  known_starts ids xs e = set_starts commits (filter_map (commit_with commits) ids) (λ c h. parents_had commits ids c h) xs e

  pub drained_starts : (ids : List ℕ) (value : OkCommits) (xs : List (Bor Commit)) → value.found.commits.now ≡ commits → value.found.ids.now ≡ ids
      → DrainsTo becomes (YieldsFirstBy value_of_item items_left) value (map (λ x. Ok x) xs) → map (node commits) xs ≡ known_ids commits ids
  drained_starts ids value xs same list d = known_starts ids xs (shown_are xs _ (commits_drained commits ids value (map (λ x. Ok x) xs) same list d))

  pub known_are_nodes : (ids : List ℕ) → AreNodes (walk_of commits) (known_ids commits ids)
  known_are_nodes ids = set_are_nodes commits (filter_map (commit_with commits) ids) (λ c h. parents_had commits ids c h)

  -- nodes in topological order have their ids for their numbers
  pub child_first_ids : (starts : List ℕ) → AreNodes (walk_of commits) starts → (xs : List (Bor Commit)) → IsTopologicalOrder (parent_graph commits) starts (map (node commits) xs)
      → IsTopologicalOrder (parent_graph commits) starts (map (λ x. x.now.id) xs)
  child_first_ids starts nodes xs order =
      subst (λ l. IsTopologicalOrder (parent_graph commits) starts l)
      (ids_are commits xs (λ x h. node_has commits x (are_nodes {E = ℕ} (walk_of commits) (λ a. []) starts (walk_closed commits) nodes (node commits x) ((order.all (node commits x)).0 (Contains-map (node commits) xs x h))))) order

  -- the ids as their own numbers
  abbrev pub id_walk : GraphModel ℕ ℕ
  id_walk = record { graph = parent_graph commits; is_node = λ n. true; node = λ n. n; id = λ i. i }

  -- nodes in preorder have their ids for their numbers
  pub preorder_ids : (starts : List ℕ) → AreNodes (walk_of commits) starts → (xs : List (Bor Commit)) → IsPreorder (parent_graph commits) starts (map (node commits) xs)
      → IsPreorder (parent_graph commits) starts (map (λ x. x.now.id) xs)
  preorder_ids starts nodes xs order =
      subst (λ l. IsPreorder (parent_graph commits) starts l)
      (ids_are commits xs (λ x h. node_has commits x (are_nodes {E = ℕ} (walk_of commits) (λ a. []) starts (walk_closed commits) nodes (node commits x)
      (reached_of (node commits x) (Preorder-reached (parent_graph commits) (reverse starts) [] (map (node commits) xs) order (node commits x) (Contains-map (node commits) xs x h)))))) order
    where
      reached_of : (a : ℕ) → Contains [] a ⊎ ReachedFrom (parent_graph commits) (reverse starts) a → ReachedFrom (parent_graph commits) starts a
      reached_of a (inl h) = absurd (nothing a h)
      reached_of a (inr (s, at, r)) = (s, from_reverse starts s at, r)
