-- Lookups of commits implement the graph of the commits, and fail only at missing ones.
use Rattle.std.proofs.Common.{◌≡◌, ◌⊎◌, inl, inr, ℕ, true, Option, None, Some, Result, Ok, Err, List, [], ◌∷◌, ◌++◌, map, refl, sym, ◌∙◌, ap, subst, arith, eqb, reverse, ⊎_elim}
use Rattle.std.specs.Fn.{Called, Mut, Shared}
use Rattle.std.specs.Iterator.{YieldsFirstBy}
use Rattle.std.specs.List.{Contains, cons_option, filter_map}
use Rattle.std.specs.declared.alloc.AllocError.{AllocError}
use Rattle.std.proofs.lemmas.Fn.{always_returns_same}
use Rattle.std.proofs.lemmas.Iterator.Consumers.{YieldsList-from_first}
use Rattle.std.proofs.lemmas.List.Elements.{Contains-append_right}
use denote.Ref.{Bor}
use Rattle.jj_dag.specs.ClosureGraph.{ClosureGraph, Implements, InEachModel, IsCycleError, IsInputError, Listing, MayReturn, ReturnsId}
use Rattle.jj_dag.specs.FallibleGraphs.{FailsAfterNodes}
use Rattle.jj_dag.specs.Graph.{AreMaximalElements, IsPostorder, OnCycleFrom, ReachedFrom}
use Rattle.jj_dag.specs.Orders.{IsWholePostorder}
use Rattle.jj_dag.specs.Walk.{DrainsTo, GraphModel}
use Rattle.jj_dag.proofs.ClosureGraphs.{may_return_says}
use Rattle.jj_walks.proofs.Callers.{cycle_error_in, in_model, input_error_in}
use Rattle.jj_walks.proofs.Expanding.{in_reverse}
use Rattle.jj_dag.proofs.Collecting.{are_nodes}
use Rattle.jj_dag.proofs.FailingWalks.{begun_are}
use Rattle.jj_dag.proofs.Plain.{nothing}
use Rattle.jj_dag.proofs.Postorders.{from_reverse, Postorder-reached}
use Rattle.jj_dag.proofs.Relabelled.{Contains-map}
use Rattle.jj_dag.proofs.Walking.{drained_are}
use Rattle.jj_walks_tests.specs.declared.commits.Commit.{Commit}
use Rattle.jj_walks_tests.specs.declared.lookups.Lookups.{Lookups}
use Rattle.jj_walks_tests.specs.Commits.{commit_with, has_commit, known_ids, parent_graph}
use Rattle.jj_walks_tests.specs.Missing.{IsMissingFrom, looked_up, lookups_left, or_missing}
use Rattle.jj_walks_tests.specs.Parents.{value_of_item}
use Rattle.jj_walks_tests.proofs.Numbering.{ids_are, node, node_has, node_id, node_stands, walk_closed, walk_neighbors, walk_of}
use Rattle.jj_walks_tests.proofs.OkItems.{known_are_nodes, known_starts}

abbrev pub becomes : Lookups → Lookups → Type 0
becomes s t = t ≡ s

abbrev pub steps : Lookups → Option (Result (Bor Commit) ℕ) → Lookups → Type 0
steps = YieldsFirstBy value_of_item lookups_left

pub found_one : (x : Commit) (id : ℕ) (o : Option Commit) → Ok x ≡ or_missing id o → o ≡ Some x
found_one x id None e = absurd cc
found_one x id (Some c) e = let same : x ≡ c = cc in ap (λ d. Some d) (sym same)

pub lacked_one : (id missing : ℕ) (o : Option Commit) → or_missing id o ≡ Err missing → (o ≡ None) × (id ≡ missing)
lacked_one id missing None e = (refl, cc)
lacked_one id missing (Some c) e = absurd cc

module _ (commits : List Commit) where
  -- if each lookup found a commit, these are the commits
  found_all : (xs : List (Bor Commit)) (ids : List ℕ) → map value_of_item (map (λ x. Ok x) xs) ≡ map (looked_up commits) ids → map (λ x. x.now) xs ≡ filter_map (commit_with commits) ids
  found_all [] [] e = refl
  found_all [] (id ∷ ids) e = absurd cc
  found_all (x ∷ xs) [] e = absurd cc
  found_all (x ∷ xs) (id ∷ ids) e =
      let rest : map value_of_item (map (λ y. Ok y) xs) ≡ map (looked_up commits) ids = cc in
      let first : Ok x.now ≡ looked_up commits id = cc in
      ap (λ l. x.now ∷ l) (found_all xs ids rest) ∙ sym (ap (λ o. cons_option o (filter_map (commit_with commits) ids)) (found_one x.now id (commit_with commits id) first))

  -- the first error is a missing id
  first_missing : (xs : List (Bor Commit)) (id : ℕ) (rest : List (Result Commit ℕ)) (ids : List ℕ) → map (looked_up commits) ids ≡ map value_of_item (map (λ x. Ok x) xs ++ Err id ∷ []) ++ rest
      → Contains ids id × (commit_with commits id ≡ None)
  first_missing [] id rest [] e = absurd cc
  first_missing (x ∷ xs) id rest [] e = absurd cc
  first_missing [] id rest (i ∷ ids) e =
      let first : looked_up commits i ≡ Err id = cc in
      let lacked = lacked_one i id (commit_with commits i) first in
      ((0, omega arith, lacked.1), subst (λ (n : ℕ). commit_with commits n ≡ None) lacked.1 lacked.0)
  first_missing (x ∷ xs) id rest (i ∷ ids) e =
      let later : map (looked_up commits) ids ≡ map value_of_item (map (λ y. Ok y) xs ++ Err id ∷ []) ++ rest = cc in
      let found = first_missing xs id rest ids later in
      (Contains-append_right (i ∷ []) ids id found.0, found.1)

  module _ (ids : List ℕ) (value : Lookups) (same : value.commits.now ≡ commits) (list : value.ids.now ≡ ids) where
    pub left : lookups_left value ≡ map (looked_up commits) ids
    left = ap (λ cs. map (looked_up cs) value.ids.now) same ∙ ap (map (looked_up commits)) list

    pub drained_all : (xs : List (Bor Commit)) → DrainsTo becomes steps value (map (λ x. Ok x) xs) → map (λ x. x.now) xs ≡ filter_map (commit_with commits) ids
    drained_all xs d =
        found_all xs ids (drained_are becomes steps value (map (λ x. Ok x) xs) value_of_item (map (looked_up commits) ids) (λ it b. YieldsList-from_first value_of_item lookups_left _ (ap lookups_left b ∙ left)) d)

    pub failed_at : (id : ℕ) → FailsAfterNodes becomes steps value id → Contains ids id × (commit_with commits id ≡ None)
    failed_at id (xs, d) =
        let begun = begun_are becomes steps value (map (λ x. Ok x) xs ++ Err id ∷ []) value_of_item (map (looked_up commits) ids) (λ it b. YieldsList-from_first value_of_item lookups_left _ (ap lookups_left b ∙ left)) d in
        first_missing xs id begun.0 ids begun.1

    pub drained_known : (xs : List (Bor Commit)) → DrainsTo becomes steps value (map (λ x. Ok x) xs) → map (node commits) xs ≡ known_ids commits ids
    drained_known xs d = known_starts commits ids xs (drained_all xs d)

    pub start_missing : (id : ℕ) → FailsAfterNodes becomes steps value id → IsMissingFrom commits ids id
    start_missing id fails = let f = failed_at id fails in record { missing = f.1; named = inl f.0 }

  -- Closures that return a commit's id and look up its parents.
  module _ {F N : Type 0} (ids_of_nodes : Shared F (Bor (Bor Commit) × Unit {0}) (Result (Bor ℕ) AllocError)) (lists : Mut N (Bor (Bor Commit) × Unit {0}) Lookups) (id_fn : F) (neighbors_fn : N)
      (same_id : (x : Bor Commit) (i : Bor ℕ) → ReturnsId ids_of_nodes id_fn x i → i.now ≡ x.now.id)
      (looks : (a : Bor (Bor Commit) × Unit {0}) (r : Lookups) (after : N) → Called lists neighbors_fn a r after
      → (r.commits.now ≡ commits) × (r.ids.now ≡ a.0.now.now.parents.items) × (after ≡ neighbors_fn)) where
    pub lookups_implemented : Implements (walk_of commits) (λ i j. eqb i.now j.now) ids_of_nodes lists (λ r xs. DrainsTo becomes steps r (map (λ x. Ok x) xs)) id_fn neighbors_fn
    lookups_implemented = record {
      closed = walk_closed commits;
      apart = λ i j a b. refl;
      ids_match = λ x i is h. same_id x i h ∙ node_stands commits x is;
      neighbors = always_returns_same lists _ neighbors_fn (λ a r after h.
          let k = looks a r after h in
          (λ xs here d. walk_neighbors commits a.0.now xs here (drained_all a.0.now.now.parents.items r k.0 k.1 xs d), k.2));
    }

  pub node_found : (ids : List ℕ) (x : Bor Commit) → ReachedFrom (parent_graph commits) (known_ids commits ids) (node commits x) → has_commit commits x.now ≡ true
  node_found ids x reached = node_has commits x (are_nodes {E = ℕ} (walk_of commits) (λ a. []) (known_ids commits ids) (walk_closed commits) (known_are_nodes commits ids) (node commits x) reached)

  module _ {N : Type 0} (lists : Mut N (Bor (Bor Commit) × Unit {0}) Lookups) (neighbors_fn : N)
      (looks : (a : Bor (Bor Commit) × Unit {0}) (r : Lookups) (after : N) → Called lists neighbors_fn a r after
      → (r.commits.now ≡ commits) × (r.ids.now ≡ a.0.now.now.parents.items) × (after ≡ neighbors_fn)) (ids : List ℕ) where
    pub parent_missing : (x : Bor Commit) (id : ℕ) → (r : Lookups) × MayReturn lists neighbors_fn x r × FailsAfterNodes becomes steps r id
        → ReachedFrom (parent_graph commits) (known_ids commits ids) (node commits x) → IsMissingFrom commits ids id
    parent_missing x id (r, may, fails) reached =
        let P : Bor Commit → Lookups → Type 0 = λ y s. (s.commits.now ≡ commits) × (s.ids.now ≡ y.now.parents.items) in
        let says : P x r = may_return_says lists P (always_returns_same lists _ neighbors_fn (λ a s after h. let k = looks a s after h in ((k.0, k.1), k.2))) may in
        let f = failed_at x.now.parents.items r says.0 says.1 id fails in
        let here = node_found ids x reached in
        record { missing = f.1; named = inr (x.now, here, subst (λ (n : ℕ). ReachedFrom (parent_graph commits) (known_ids commits ids) n) (node_id commits x here) reached, f.0) }

  -- nodes that the ids reach have their ids for their numbers
  pub reached_ids : (ids : List ℕ) (xs : List (Bor Commit)) → ((a : ℕ) → Contains (map (node commits) xs) a → ReachedFrom (parent_graph commits) (known_ids commits ids) a) → map (node commits) xs ≡ map (λ x. x.now.id) xs
  reached_ids ids xs reached =
      ids_are commits xs (λ x h. node_has commits x (are_nodes {E = ℕ} (walk_of commits) (λ a. []) (known_ids commits ids) (walk_closed commits) (known_are_nodes commits ids) (node commits x)
      (reached (node commits x) (Contains-map (node commits) xs x h))))

  pub maximal_known : (ids : List ℕ) (xs : List (Bor Commit)) → AreMaximalElements (parent_graph commits) (known_ids commits ids) (map (node commits) xs)
      → AreMaximalElements (parent_graph commits) (known_ids commits ids) (map (λ x. x.now.id) xs)
  maximal_known ids xs m =
      subst (λ l. AreMaximalElements (parent_graph commits) (known_ids commits ids) l) (reached_ids ids xs (λ a h. (a, ((m.all a).0 h).0, (0, refl)))) m

  postorder_reached : (ids : List ℕ) (order : List ℕ) → IsPostorder (parent_graph commits) (known_ids commits ids) order → (a : ℕ) → Contains order a → ReachedFrom (parent_graph commits) (known_ids commits ids) a
  postorder_reached ids order p a h =
      ⊎_elim (λ l. absurd (nothing a l)) (λ r. (r.0, from_reverse (known_ids commits ids) r.0 r.1, r.2)) (Postorder-reached (parent_graph commits) (reverse (known_ids commits ids)) [] order p a h)

  pub postorder_known : (ids : List ℕ) (xs : List (Bor Commit)) → IsWholePostorder (parent_graph commits) (known_ids commits ids) (map (node commits) xs)
      → IsWholePostorder (parent_graph commits) (known_ids commits ids) (map (λ x. x.now.id) xs)
  postorder_known ids xs m =
      subst (λ l. IsWholePostorder (parent_graph commits) (known_ids commits ids) l) (reached_ids ids xs (postorder_reached ids (map (node commits) xs) m.postorder)) m

  pub reversed_known : (ids : List ℕ) (xs : List (Bor Commit)) → IsWholePostorder (parent_graph commits) (known_ids commits ids) (reverse (map (node commits) xs))
      → IsWholePostorder (parent_graph commits) (known_ids commits ids) (reverse (map (λ x. x.now.id) xs))
  reversed_known ids xs m =
      subst (λ l. IsWholePostorder (parent_graph commits) (known_ids commits ids) (reverse l))
      (reached_ids ids xs (λ a h. postorder_reached ids (reverse (map (node commits) xs)) m.postorder a (in_reverse (map (node commits) xs) a h))) m

  pub cycle_known : (ids : List ℕ) (x : Bor Commit) (id : ℕ) → id ≡ x.now.id → OnCycleFrom (parent_graph commits) (known_ids commits ids) (node commits x) → OnCycleFrom (parent_graph commits) (known_ids commits ids) id
  cycle_known ids x id e k =
      let here = node_has commits x (are_nodes {E = ℕ} (walk_of commits) (λ a. []) (known_ids commits ids) (walk_closed commits) (known_are_nodes commits ids) (node commits x) k.0) in
      subst (λ (n : ℕ). OnCycleFrom (parent_graph commits) (known_ids commits ids) n) (node_id commits x here ∙ sym e) k

  -- Walks from the commits with these ids, whose closures implement the graph of the commits.
  module _ {graph : ClosureGraph (Bor Commit) (Bor ℕ) ℕ} {start : Listing (Bor Commit) ℕ} (ids : List ℕ) (implemented : graph.implements (walk_of commits)) (same : (xs : List (Bor Commit)) → start.yields xs → map (node commits) xs ≡ known_ids commits ids) where
    -- a property of each model is one of the graph of the commits
    pub of_known : {P : GraphModel (Bor Commit) (Bor ℕ) → List ℕ → Type 0} → InEachModel graph start P → P (walk_of commits) (known_ids commits ids)
    of_known k = in_model (walk_of commits) (known_ids commits ids) implemented (known_are_nodes commits ids) same k

    -- an error of the input is a missing id
    pub missing_input : (id : ℕ) → (start.fails id → IsMissingFrom commits ids id) → ((x : Bor Commit) → graph.fails x id → ReachedFrom (parent_graph commits) (known_ids commits ids) (node commits x) → IsMissingFrom commits ids id)
        → IsInputError graph start id → IsMissingFrom commits ids id
    missing_input id at_start below failed =
        ⊎_elim at_start (λ (x, fails, reached). below x fails reached) (input_error_in (walk_of commits) (known_ids commits ids) implemented (known_are_nodes commits ids) same failed)

    -- or the error is the id of a commit on a cycle
    pub missing_or_cycle : {made : Bor Commit → ℕ → Type 0} (id : ℕ) → ((x : Bor Commit) → made x id → id ≡ x.now.id) → (start.fails id → IsMissingFrom commits ids id)
        → ((x : Bor Commit) → graph.fails x id → ReachedFrom (parent_graph commits) (known_ids commits ids) (node commits x) → IsMissingFrom commits ids id)
        → IsInputError graph start id ⊎ IsCycleError made graph start id → IsMissingFrom commits ids id ⊎ OnCycleFrom (parent_graph commits) (known_ids commits ids) id
    missing_or_cycle id named at_start below (inl failed) = inl (missing_input id at_start below failed)
    missing_or_cycle id named at_start below (inr made) =
        let q = cycle_error_in (walk_of commits) (known_ids commits ids) implemented (known_are_nodes commits ids) same made in
        inr (cycle_known ids q.0 id (named q.0 q.1) q.2)
