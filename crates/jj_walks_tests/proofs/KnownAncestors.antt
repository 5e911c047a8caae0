-- Walks over lookups of commits yield the ancestors that the list has, and the missing ids.
use Rattle.std.proofs.Common.{◌≡◌, ◌⊎◌, inl, inr, ℕ, true, None, Some, Option, is_some, Result, Ok, Err, List, [], ◌∷◌, map, refl, sym, ◌∙◌, ap, subst, eqb, ⊎_elim}
use Rattle.std.specs.Prelude.{◌↔◌}
use Rattle.std.specs.Fn.{Called, Mut, Shared}
use Rattle.std.specs.List.{Contains, IsDistinct, cons_option, filter_map}
use Rattle.std.specs.declared.alloc.AllocError.{AllocError}
use Rattle.std.proofs.lemmas.Fn.{always_returns_same}
use Rattle.std.proofs.lemmas.Iterator.Consumers.{YieldsList-from_first}
use denote.Ref.{Bor}
use Rattle.jj_dag.specs.ClosureGraph.{ReturnsId}
use Rattle.jj_dag.specs.FallibleGraphs.{FallibleGraph, ok_items}
use Rattle.jj_dag.specs.Graph.{ReachedFrom}
use Rattle.jj_dag.specs.Walk.{AreNodes, DrainsTo}
use Rattle.jj_dag.proofs.Plain.{nothing}
use Rattle.jj_dag.proofs.Walking.{drained_are}
use Rattle.jj_walks.specs.Expansions.{IsRun, item_of}
use Rattle.jj_walks.proofs.DfsOkRuns.{error_back, map_back}
use Rattle.jj_walks.proofs.Expanding.{in_map}
use Rattle.jj_walks.proofs.FixedItems.{ListsItems, errors_exactly, nodes_exactly, nodes_once}
use Rattle.jj_walks_tests.specs.declared.commits.Commit.{Commit}
use Rattle.jj_walks_tests.specs.declared.lookups.Lookups.{Lookups}
use Rattle.jj_walks_tests.specs.Commits.{commit_with, has_commit, ids_of, known_ids, parents_in, parent_graph}
use Rattle.jj_walks_tests.specs.Missing.{AreKnownAncestors, IsMissingFrom, found_ids, looked_up, lookups_left, or_missing}
use Rattle.jj_walks_tests.specs.Parents.{value_of_item}
use Rattle.jj_walks_tests.proofs.LookedUpCommits.{becomes, found_one, lacked_one, left, reached_ids, steps}
use Rattle.jj_walks_tests.proofs.Numbering.{found_has, found_id, has_found, node, node_has, node_id, node_stands, walk_closed, walk_of}
use Rattle.jj_walks_tests.proofs.OkItems.{known_are_nodes}

module _ (commits : List Commit) where
  abbrev Items : List (Result (Bor Commit) ℕ) → List ℕ → Type 0
  Items xs ids = map value_of_item xs ≡ map (looked_up commits) ids

  -- the number of a looked-up commit, or the missing id
  abbrev numbered : ℕ → Option Commit → Result ℕ ℕ
  numbered id None = Err id
  numbered id (Some c) = Ok c.id

  abbrev number_item : ℕ → Result ℕ ℕ
  number_item id = numbered id (commit_with commits id)

  abbrev items_of : Option Commit → List (Result ℕ ℕ)
  items_of None = []
  items_of (Some c) = map number_item c.parents.items

  -- the items of each node
  abbrev items : FallibleGraph ℕ
  items n = items_of (commit_with commits n)

  number_is : (x : Result (Bor Commit) ℕ) (id : ℕ) → value_of_item x ≡ looked_up commits id → item_of (node commits) x ≡ number_item id
  number_is (Ok c) id same =
      let found : commit_with commits id ≡ Some c.now = found_one c.now id (commit_with commits id) same in
      let named : c.now.id ≡ id = found_id commits id c.now found in
      let has : has_commit commits c.now ≡ true = found_has commits c.now (ap (commit_with commits) named ∙ found) in
      ap (λ n. Ok n) (node_id commits c has) ∙ ap (numbered id) (sym found)
  number_is (Err n) id same =
      let lacked = lacked_one id n (commit_with commits id) (sym same) in
      ap (λ m. Err m) (sym lacked.1) ∙ ap (numbered id) (sym lacked.0)

  numbers_of : (xs : List (Result (Bor Commit) ℕ)) (ids : List ℕ) → Items xs ids → map (item_of (node commits)) xs ≡ map number_item ids
  numbers_of [] [] e = refl
  numbers_of [] (id ∷ ids) e = absurd cc
  numbers_of (x ∷ xs) [] e = absurd cc
  numbers_of (x ∷ xs) (id ∷ ids) e =
      let first : item_of (node commits) x ≡ number_item id = number_is x id cc in
      let rest = numbers_of xs ids cc in
      λ i. first i ∷ rest i

  ok_numbers : (ids : List ℕ) → ok_items (map number_item ids) ≡ known_ids commits ids
  ok_numbers [] = refl
  ok_numbers (id ∷ ids) = by_lookup (commit_with commits id) (ok_numbers ids)
    where
      by_lookup : (o : Option Commit) → ok_items (map number_item ids) ≡ known_ids commits ids → ok_items (numbered id o ∷ map number_item ids) ≡ ids_of (cons_option o (filter_map (commit_with commits) ids))
      by_lookup None rest = rest
      by_lookup (Some c) rest = ap (λ l. c.id ∷ l) rest

  error_of : (ids : List ℕ) (id : ℕ) → Contains (map number_item ids) (Err id) → Contains ids id × (commit_with commits id ≡ None)
  error_of ids id h =
      let q = map_back number_item ids (Err id) h in
      let k = lacks q.0 (commit_with commits q.0) q.2 in
      (subst (λ (n : ℕ). Contains ids n) k.1 q.1, subst (λ (n : ℕ). commit_with commits n ≡ None) k.1 k.0)
    where
      lacks : (n : ℕ) (o : Option Commit) → numbered n o ≡ Err id → (o ≡ None) × (n ≡ id)
      lacks n None e = (refl, cc)
      lacks n (Some c) e = absurd cc

  of_error : (ids : List ℕ) (id : ℕ) → Contains ids id → commit_with commits id ≡ None → Contains (map number_item ids) (Err id)
  of_error ids id h none = subst (λ (y : Result ℕ ℕ). Contains (map number_item ids) y) (ap (numbered id) none) (in_map number_item ids id h)

  -- the nodes among the items are the neighbors
  same_nodes : (n : ℕ) → ok_items (items n) ≡ parent_graph commits n
  same_nodes n = by_lookup (commit_with commits n)
    where
      by_lookup : (o : Option Commit) → ok_items (items_of o) ≡ elim o [ None ↦ [] | Some c ↦ ids_of (parents_in commits c) ]
      by_lookup None = refl
      by_lookup (Some c) = ok_numbers c.parents.items

  -- the items of a commit of the list
  items_at : (c : Commit) → has_commit commits c ≡ true → items c.id ≡ map number_item c.parents.items
  items_at c has = let d = has_found commits c has in ap items_of d.1 ∙ ap (map number_item) d.2.2

  module _ (ids : List ℕ) (value : Lookups) (same : value.commits.now ≡ commits) (list : value.ids.now ≡ ids) where
    pub drained_items : (xs : List (Result (Bor Commit) ℕ)) → DrainsTo becomes steps value xs → Items xs ids
    drained_items xs d = drained_are becomes steps value xs value_of_item (map (looked_up commits) ids) (λ it b. YieldsList-from_first value_of_item lookups_left _ (ap lookups_left b ∙ left commits ids value same list)) d

  -- A run over closures that return a commit's id and look up its parents.
  module _ {F N : Type 0} (ids_of_nodes : Shared F (Bor (Bor Commit) × Unit {0}) (Result (Bor ℕ) AllocError)) (lists : Mut N (Bor (Bor Commit) × Unit {0}) Lookups) (id_fn : F) (neighbors_fn : N)
      (ids : List ℕ) (starts found : List (Result (Bor Commit) ℕ)) (run : IsRun (λ i j. eqb i.now j.now) ids_of_nodes lists (DrainsTo becomes steps) id_fn neighbors_fn starts found)
      (same_id : (x : Bor Commit) (i : Bor ℕ) → ReturnsId ids_of_nodes id_fn x i → i.now ≡ x.now.id)
      (looks : (a : Bor (Bor Commit) × Unit {0}) (r : Lookups) (after : N) → Called lists neighbors_fn a r after
      → (r.commits.now ≡ commits) × (r.ids.now ≡ a.0.now.now.parents.items) × (after ≡ neighbors_fn)) (listed : Items starts ids) where
    lists_items : ListsItems (λ i j. eqb i.now j.now) ids_of_nodes lists (DrainsTo becomes steps) id_fn neighbors_fn (walk_of commits) items
    lists_items = record {
      closed = walk_closed commits;
      apart = λ i j a b. refl;
      ids_match = λ x i is h. same_id x i h ∙ node_stands commits x is;
      same_nodes = λ n is. same_nodes n;
      listed = always_returns_same lists _ neighbors_fn (λ a r after h.
          let k = looks a r after h in (
            λ xs here d.
                let has = node_has commits a.0.now here in
                numbers_of xs a.0.now.now.parents.items (drained_items a.0.now.now.parents.items r k.0 k.1 xs d) ∙ sym (items_at a.0.now.now has) ∙ ap items (sym (node_id commits a.0.now has)),
            k.2,
          ));
    }

    started : ok_items (map (item_of (node commits)) starts) ≡ known_ids commits ids
    started = ap ok_items (numbers_of starts ids listed) ∙ ok_numbers ids

    start_nodes : AreNodes (walk_of commits) (ok_items (map (item_of (node commits)) starts))
    start_nodes = rw started (known_are_nodes commits ids)

    -- each node yielded is reached, and named by its id
    ids_found : ok_items (map (item_of (node commits)) found) ≡ found_ids found
    ids_found =
        sound_of (node commits) found
        ∙ reached_ids commits ids (ok_items found) (λ a h. rw started at ((exactly a).0 (subst (λ (l : List ℕ). Contains l a) (sym (sound_of (node commits) found)) h)))
      where
        sound_of : (f : Bor Commit → ℕ) (xs : List (Result (Bor Commit) ℕ)) → ok_items (map (item_of f) xs) ≡ map f (ok_items xs)
        sound_of f [] = refl
        sound_of f (Ok x ∷ xs) = ap (λ l. f x ∷ l) (sound_of f xs)
        sound_of f (Err e ∷ xs) = sound_of f xs

        exactly : (a : ℕ) → Contains (ok_items (map (item_of (node commits)) found)) a ↔ ReachedFrom (parent_graph commits) (ok_items (map (item_of (node commits)) starts)) a
        exactly = nodes_exactly (λ i j. eqb i.now j.now) ids_of_nodes lists (DrainsTo becomes steps) id_fn neighbors_fn (walk_of commits) items lists_items starts found start_nodes run

    -- an error is among the items of a commit exactly if its id is missing
    missing_at_start : (id : ℕ) → Contains starts (Err id) → IsMissingFrom commits ids id
    missing_at_start id h =
        let k = error_of ids id (subst (λ (l : List (Result ℕ ℕ)). Contains l (Err id)) (numbers_of starts ids listed) (in_map (item_of (node commits)) starts (Err id) h)) in
        record { missing = k.1; named = inl k.0 }

    missing_below : (id a : ℕ) → ReachedFrom (parent_graph commits) (known_ids commits ids) a → Contains (items a) (Err id) → IsMissingFrom commits ids id
    missing_below id a reached h = by_lookup (commit_with commits a) refl h
      where
        by_lookup : (o : Option Commit) → commit_with commits a ≡ o → Contains (items_of o) (Err id) → IsMissingFrom commits ids id
        by_lookup None is at = absurd (nothing (Err id) at)
        by_lookup (Some c) is at =
            let named = found_id commits a c is in
            let k = error_of c.parents.items id at in
            record {
              missing = k.1;
              named = inr (c, found_has commits c (ap (commit_with commits) named ∙ is), subst (λ (n : ℕ). ReachedFrom (parent_graph commits) (known_ids commits ids) n) (sym named) reached, k.0);
            }

    of_missing : (id : ℕ) → IsMissingFrom commits ids id → Contains starts (Err id) ⊎ ((a : ℕ) × ReachedFrom (parent_graph commits) (known_ids commits ids) a × Contains (items a) (Err id))
    of_missing id m =
        ⊎_elim (λ start. inl (error_back (node commits) starts id (subst (λ (l : List (Result ℕ ℕ)). Contains l (Err id)) (sym (numbers_of starts ids listed)) (of_error ids id start m.missing))))
        (λ (c, has, r, inside). inr (c.id, r, subst (λ (l : List (Result ℕ ℕ)). Contains l (Err id)) (sym (items_at c has)) (of_error c.parents.items id inside m.missing))) m.named

    -- the items of the run are the known ancestors
    pub known_by_run : AreKnownAncestors commits ids found
    known_by_run =
        let exactly = nodes_exactly (λ i j. eqb i.now j.now) ids_of_nodes lists (DrainsTo becomes steps) id_fn neighbors_fn (walk_of commits) items lists_items starts found start_nodes run in
        let failed = errors_exactly (λ i j. eqb i.now j.now) ids_of_nodes lists (DrainsTo becomes steps) id_fn neighbors_fn (walk_of commits) items lists_items starts found start_nodes run in
        record {
          exactly = λ id. (
            λ h. rw started at ((exactly id).0 (subst (λ (l : List ℕ). Contains l id) (sym ids_found) h)),
            λ r. subst (λ (l : List ℕ). Contains l id) ids_found ((exactly id).1 (rw started r)),
          );
          once = subst (λ (l : List ℕ). IsDistinct eqb l) ids_found (nodes_once (λ i j. eqb i.now j.now) ids_of_nodes lists (DrainsTo becomes steps) id_fn neighbors_fn (walk_of commits) items lists_items starts found start_nodes run);
          errors = λ id. (
            λ h. ⊎_elim (λ start. missing_at_start id start) (λ (a, r, at). missing_below id a (rw started at r) at) ((failed id).0 h),
            λ m. (failed id).1 (rw started (of_missing id m)),
          );
        }
