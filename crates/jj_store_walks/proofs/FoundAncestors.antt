-- A depth-first walk over reads of a store finds the ancestors of the ids that can be read.
use Rattle.std.proofs.Common.{◌≡◌, ◌≢◌, inl, inr, ℕ, zero, suc, ◌==◌, not, true, Option, None, Some, Result, Ok, Err, List, [], ◌∷◌, map, reverse, refl, sym, ◌∙◌, ap, subst, arith, eqb, ⊎_elim}
use Rattle.std.specs.Prelude.{AllPairs, filter_map}
use Rattle.std.specs.Fn.{Called, Mut, Shared}
use Rattle.std.specs.Iterator.{YieldsFirst}
use Rattle.std.specs.List.{Contains, IsDistinct}
use Rattle.std.specs.Result.{result_err}
use Rattle.std.specs.Str.{bytes_eq}
use Rattle.std.specs.declared.alloc.AllocError.{AllocError}
use Rattle.std.proofs.lemmas.Bool.Decides.{Decides-eqb}
use Rattle.std.proofs.lemmas.Fn.{always_returns_same}
use Rattle.std.proofs.lemmas.Iterator.Consumers.{YieldsList-from_first}
use Rattle.std.proofs.lemmas.List.{get_or-map, length-map, map-id}
use Rattle.std.proofs.lemmas.Map.Made.{AllPairs-from_IsDistinct}
use denote.Ref.{Bor}
use Rattle.jj_backend.specs.Objects.{Objects}
use Rattle.jj_backend.specs.declared.backend.errors.BackendError.{BackendError}
use Rattle.jj_backend.specs.declared.backend.errors.BackendError.TheVariants.{Memory}
use Rattle.jj_dag.specs.ClosureGraph.{ReturnsId}
use Rattle.jj_dag.specs.FallibleGraphs.{FalliblePreorder, ok_items}
use Rattle.jj_dag.specs.Graph.{ReachedFrom}
use Rattle.jj_dag.specs.NodeGraph.{ReachesNode}
use Rattle.jj_dag.specs.Walk.{AreNodes, DrainsTo}
use Rattle.jj_dag.proofs.ClosureGraphs.{may_return_says}
use Rattle.jj_dag.proofs.FailingWalks.{Contains-from_ok_items, Contains-ok_items}
use Rattle.jj_dag.proofs.ListNumbers.{list_of_number, list_of_number-number, number}
use Rattle.jj_dag.proofs.NodeGraphs.{Contains-map, one_node}
use Rattle.jj_dag.proofs.Walking.{drained_are}
use Rattle.jj_walks.specs.Expansions.{Expansion, ImplementsItems, IsRun, MayList, expansions_graph, item_of}
use Rattle.jj_walks.proofs.Expanding.{at_first, first_or_rest, in_map, in_rest, in_reverse, numbered_back}
use Rattle.jj_walks.proofs.Preorders.{FalliblePreorder-closed, FalliblePreorder-error, FalliblePreorder-gives, from_reverse}
use Rattle.jj_walks.proofs.DfsOkRuns.{expansion_of, errors_given, yielded_of, yielded_once, items_yielded, reached, returned, start_errors_given, starts_given}
use Rattle.jj_store_walks.specs.Histories.{AreFoundAncestors, Completes, InEachHistory, IsRead, Parents, found_errors, found_ids}
use Rattle.jj_store_walks.specs.ReadCommits.{IsReadFailure, IsStored, id_of}
use Rattle.jj_store_walks.specs.ReadResults.{AreReads, reads_left}
use Rattle.jj_store_walks.specs.declared.read_commit.ReadCommit.{ReadCommit}
use Rattle.jj_store_walks.specs.declared.reads.Reads.{Reads}
use Rattle.jj_walks.proofs.Callers.{number_is_node}
use Rattle.jj_store_walks.proofs.Commits.{id_graph, implements_commits, known_node, listed_commits, node_of, node_reached, parent_reached, stored_node, walk_of}
use Rattle.jj_store_walks.proofs.FailedReads.{Failure, Labelled, covered, errors_numbered, errors_plain, failures_in, from_failures, graph_plain, labelled_at, labelled_from, labelled_graph, labels, labels_failed, labels_plain}
use Rattle.jj_store_walks.proofs.LabelledRuns.{labelled, plain, plain_in, plain_reverse}
use Rattle.jj_store_walks.proofs.ReadResults.{Item, reads_sound, reads_stored, reads_whole}

abbrev becomes : Reads → Reads → Type 0
becomes s t = t ≡ s

abbrev steps : Reads → Option Item → Reads → Type 0
steps = YieldsFirst reads_left

abbrev pub yields : Reads → List Item → Type 0
yields = DrainsTo becomes steps

pub drained : (r : Reads) (xs : List Item) → yields r xs → xs ≡ reads_left r
drained r xs d = sym (map-id xs) ∙ drained_are becomes steps r xs (λ y. y) (reads_left r) (λ it b. YieldsList-from_first (λ y. y) reads_left _ (ap reads_left b)) d

-- ---- lists

sound_in : (xs : List Item) (x : ReadCommit) → Contains xs (Ok x) → Contains (ok_items xs) x
sound_in [] x (k, lt, e) = absurd (omega arith)
sound_in (Ok y ∷ xs) x (zero, lt, e) = (0, omega arith, cc)
sound_in (Ok y ∷ xs) x (suc k, lt, e) = in_rest y (ok_items xs) x (sound_in xs x (k, omega arith, e))
sound_in (Err y ∷ xs) x (zero, lt, e) = cc
sound_in (Err y ∷ xs) x (suc k, lt, e) = sound_in xs x (k, omega arith, e)

pub id_back : (xs : List ReadCommit) (id : List ℕ) → Contains (map id_of xs) id → (x : ReadCommit) × Contains xs x × (x.id ≡ id)
id_back [] id h = absurd (omega (arith, h.1))
id_back (x ∷ xs) id h =
    ⊎_elim (λ here. (x, at_first x xs, here)) (λ there. let q = id_back xs id there in (q.0, in_rest x xs q.0 q.1, q.2)) (first_or_rest x.id (map id_of xs) id h)

-- lists of distinct numbers are of distinct ids
distinct_ids : (xs : List (List ℕ)) → IsDistinct eqb (map number xs) → AllPairs (λ a b. a ≢ b) xs
distinct_ids xs once i j d less within same =
    let differ = AllPairs-from_IsDistinct Decides-eqb (map number xs) once i j (number d) less (omega (arith, length-map xs number)) in
    differ (get_or-map number xs i d (number d) (omega arith) ∙ ap number same ∙ sym (get_or-map number xs j d (number d) within))

module _ (may_fail : BackendError → Type 0) (store : Objects) where
  abbrev node : ReadCommit → ℕ
  node = node_of may_fail store

  abbrev numbers : List Item → List (Result ℕ BackendError)
  numbers xs = map (item_of node) xs

  -- the history without the commits that the store lacks
  abbrev known_parents : Parents
  known_parents id = elim (store.commits id) [ None ↦ [] | Some c ↦ c.parents ]

  known_completes : Completes store known_parents
  known_completes id commit is = ap (λ o. elim o [ None ↦ [] | Some c ↦ c.parents ]) is

  stored_numbers : (xs : List Item) → ((c : ReadCommit) → Contains xs (Ok c) → IsStored store c) → ok_items (numbers xs) ≡ map number (found_ids xs)
  stored_numbers [] stored = refl
  stored_numbers (Ok x ∷ xs) stored =
      let first : node x ≡ number x.id = stored_node may_fail store x (stored x (at_first (Ok x) xs)) in
      let rest = stored_numbers xs (λ c h. stored c (in_rest (Ok x) xs (Ok c) h)) in
      λ i. first i ∷ rest i
  stored_numbers (Err e ∷ xs) stored = stored_numbers xs (λ c h. stored c (in_rest (Err e) xs (Ok c) h))

  -- Closures that return a commit's id and read its parents.
  module _ {F N : Type 0} (ids : Shared F (Bor ReadCommit × Unit {0}) (Result (List ℕ) AllocError)) (lists : Mut N (Bor ReadCommit × Unit {0}) Reads) (id_fn : F) (neighbors_fn : N)
      (same_id : (x : ReadCommit) (i : List ℕ) → ReturnsId ids id_fn x i → i ≡ x.id)
      (reads : (a : Bor ReadCommit × Unit {0}) (r : Reads) (f : N) → Called lists neighbors_fn a r f → AreReads may_fail store a.0.now.commit.parents (reads_left r) × (f ≡ neighbors_fn)) where
    listed_parents : (parents : Parents) → Completes store parents → (c : ReadCommit) → not (node c == 0) ≡ true → (r : Reads) → AreReads may_fail store c.commit.parents (reads_left r)
        → (xs : List ReadCommit) → yields r (map (λ x. Ok x) xs) → map node xs ≡ id_graph parents (node c)
    listed_parents parents complete c here r k xs d =
        let q : AreReads may_fail store c.commit.parents (map (λ x. Ok x) xs) = subst (λ (l : List Item). AreReads may_fail store c.commit.parents l) (sym (drained r (map (λ x. Ok x) xs) d)) k in
        listed_commits may_fail store parents complete c here xs (reads_whole may_fail store c.commit.parents xs q) (reads_stored may_fail store c.commit.parents xs q)

    -- a parent that was read is a neighbor
    listed_parent : (parents : Parents) → Completes store parents → (c : ReadCommit) → not (node c == 0) ≡ true → (items : List Item) → AreReads may_fail store c.commit.parents items
        → (x : ReadCommit) → Contains items (Ok x) → Contains (id_graph parents (node c)) (node x)
    listed_parent parents complete c here items k x at =
        let known = known_node may_fail store c here in
        let own = reads_sound may_fail store c.commit.parents items k x at in
        let edge : Contains (id_graph parents (number c.id)) (number x.id) =
        subst (λ (l : List (List ℕ)). Contains (map number l) (number x.id)) (sym (complete c.id c.commit known.1) ∙ ap parents (sym (list_of_number-number c.id))) (Contains-map number c.commit.parents x.id own.0) in
        subst (λ (n : ℕ). Contains (id_graph parents n) (node x)) (sym known.0) (subst (λ (n : ℕ). Contains (id_graph parents (number c.id)) n) (sym (stored_node may_fail store x own.1)) edge)

    items_implemented : (parents : Parents) → Completes store parents → ImplementsItems (walk_of may_fail store parents) bytes_eq ids lists yields id_fn neighbors_fn
    items_implemented parents complete = record {
      complete = implements_commits may_fail store ids lists (λ r xs. yields r (map (λ x. Ok x) xs)) id_fn neighbors_fn parents same_id
          (λ a r f h. let k = reads a r f h in (λ xs here d. listed_parents parents complete a.0.now here r k.0 xs d, k.1));
      partial = always_returns_same lists _ neighbors_fn (λ a r f h.
          let k = reads a r f h in (
            λ xs x here d at. listed_parent parents complete a.0.now here (reads_left r) k.0 x (subst (λ (l : List Item). Contains l (Ok x)) (drained r xs d) at),
            k.1,
          ));
    }

    answered_reads : (x : Expansion ReadCommit BackendError) → MayList bytes_eq ids lists yields neighbors_fn x → AreReads may_fail store x.node.commit.parents x.items
    answered_reads x (r, may, d) =
        let P : ReadCommit → Reads → Type 0 = λ y s. AreReads may_fail store y.commit.parents (reads_left s) in
        let says : P x.node r = may_return_says lists P (always_returns_same lists _ neighbors_fn reads) may in
        subst (λ (l : List Item). AreReads may_fail store x.node.commit.parents l) (sym (drained r x.items d)) says

    module _ (all : List (List ℕ)) (starts found : List Item) (start_reads : AreReads may_fail store all starts) (run : IsRun bytes_eq ids lists yields id_fn neighbors_fn starts found) where
      start_nodes : (parents : Parents) → AreNodes (walk_of may_fail store parents) (ok_items (numbers starts))
      start_nodes parents a h =
          let back = numbered_back node starts a (Contains-from_ok_items (numbers starts) a h) in
          let k = reads_sound may_fail store all starts start_reads back.0 back.1 in
          subst (λ (n : ℕ). not (n == 0) ≡ true) (sym (stored_node may_fail store back.0 k.1) ∙ back.2) (number_is_node back.0.id)

      commit_reached : (parents : Parents) → Completes store parents → (c : ReadCommit) → Contains found (Ok c) → ReachedFrom (id_graph parents) (map number all) (node c)
      commit_reached parents complete c at =
          let r = reached bytes_eq ids lists yields id_fn neighbors_fn starts found run (walk_of may_fail store parents) (items_implemented parents complete) (start_nodes parents) (node c) (Contains-ok_items (numbers found) (node c) (in_map (item_of node) found (Ok c) at)) in
          let back = numbered_back node starts r.0 (Contains-from_ok_items (numbers starts) r.0 r.1) in
          let k = reads_sound may_fail store all starts start_reads back.0 back.1 in
          (r.0, subst (λ (n : ℕ). Contains (map number all) n) (sym (stored_node may_fail store back.0 k.1) ∙ back.2) (Contains-map number all back.0.id k.0), r.2)

      found_stored : (c : ReadCommit) → Contains found (Ok c) → IsStored store c
      found_stored c at = (node_reached may_fail store known_parents all c (commit_reached known_parents known_completes c at)).1

      -- an id is found where its number is
      id_found : (id : List ℕ) → Contains (numbers found) (Ok (number id)) → Contains (found_ids found) id
      id_found id h =
          let back = numbered_back node found (number id) h in
          let same : back.0.id ≡ id = one_node known_parents number list_of_number list_of_number-number back.0.id id (sym (stored_node may_fail store back.0 (found_stored back.0 back.1)) ∙ back.2) in
          subst (λ (y : List ℕ). Contains (found_ids found) y) same (in_map id_of (ok_items found) back.0 (sound_in found back.0 back.1))

      -- the run with the id of each failed read
      implemented : ImplementsItems (walk_of may_fail store known_parents) bytes_eq ids lists yields id_fn neighbors_fn
      implemented = items_implemented known_parents known_completes

      run_labelled : (out : List Labelled) × FalliblePreorder (labelled_graph may_fail store run.expansions) (reverse (labels may_fail store all starts)) [] out × (map plain out ≡ numbers found)
      run_labelled = labelled (expansions_graph node run.expansions) (labelled_graph may_fail store run.expansions) (graph_plain may_fail store run.expansions) (reverse (numbers starts)) [] (numbers found)
          (run.preorder (walk_of may_fail store known_parents) implemented (start_nodes known_parents)).1
          (reverse (labels may_fail store all starts)) [] (plain_reverse (labels may_fail store all starts) ∙ ap reverse (labels_plain may_fail store all starts)) refl

      failures_of : List Failure
      failures_of = filter_map result_err run_labelled.0

      errors_are : map (λ (f : Failure). f.1) failures_of ≡ found_errors found
      unfolding failures_of
      errors_are = errors_plain run_labelled.0 ∙ ap (filter_map result_err) run_labelled.2 ∙ errors_numbered node found

      expansion_reads : (x : Expansion ReadCommit BackendError) → Contains run.expansions x → AreReads may_fail store x.node.commit.parents x.items
      expansion_reads x own = answered_reads x (returned bytes_eq ids lists yields id_fn neighbors_fn starts found run (walk_of may_fail store known_parents) implemented (start_nodes known_parents) x own)

      failed_read : (id : List ℕ) (e : BackendError) → Contains failures_of (id, e) → IsReadFailure may_fail store e id × InEachHistory store (λ parents. ReachesNode parents all id)
      unfolding failures_of
      failed_read id e h =
          ⊎_elim (λ none. absurd (omega (arith, none.1)))
          (λ later.
          ⊎_elim (λ queued.
          let k = labels_failed may_fail store all starts start_reads id e (from_reverse (labels may_fail store all starts) (Err (id, e)) queued) in
          (k.1, λ parents complete. (id, k.0, (0, refl))))
          (λ (a, at, listed).
          let (x, own, is, inside) = labelled_from may_fail store run.expansions a (Err (id, e)) listed in
          let k = labels_failed may_fail store x.node.commit.parents x.items (expansion_reads x own) id e inside in
          let yielded = yielded_of bytes_eq ids lists yields id_fn neighbors_fn starts found run (walk_of may_fail store known_parents) implemented (start_nodes known_parents) x own in
          (k.1, λ parents complete. parent_reached may_fail store parents complete all x.node id (commit_reached parents complete x.node yielded) k.0)) later)
          (FalliblePreorder-error (labelled_graph may_fail store run.expansions) (reverse (labels may_fail store all starts)) [] run_labelled.0 run_labelled.1 (id, e) (from_failures run_labelled.0 (id, e) h))

      -- a commit that was read is found
      read_found : (c : ReadCommit) (id : List ℕ) → IsStored store c → c.id ≡ id → Contains (numbers found) (Ok (node c)) → Contains (found_ids found) id
      read_found c id stored same at = id_found id (subst (λ (n : ℕ). Contains (numbers found) (Ok n)) (stored_node may_fail store c stored ∙ ap number same) at)

      start_found : (id : List ℕ) → Contains all id → IsRead store may_fail found failures_of id
      unfolding failures_of
      start_found id h =
          ⊎_elim (λ (c, at, same).
          inl (read_found c id (reads_sound may_fail store all starts start_reads c at).1 same
          (starts_given bytes_eq ids lists yields id_fn neighbors_fn starts found run (walk_of may_fail store known_parents) implemented (start_nodes known_parents) (Ok c) at)))
          (λ other.
          ⊎_elim (λ (e, at).
          inr (inl (e, failures_in run_labelled.0 (id, e) (FalliblePreorder-gives (labelled_graph may_fail store run.expansions) (reverse (labels may_fail store all starts)) [] run_labelled.0 run_labelled.1 (Err (id, e)) (in_reverse (labels may_fail store all starts) (Err (id, e)) at)))))
          (λ memory. inr (inr (start_errors_given bytes_eq ids lists yields id_fn neighbors_fn starts found run (walk_of may_fail store known_parents) implemented (start_nodes known_parents) Memory memory))) other)
          (covered may_fail store all starts start_reads id h)

      -- commits of one node are equal
      one_commit : (c d : ReadCommit) → IsStored store c → IsStored store d → node c ≡ node d → c.commit.parents ≡ d.commit.parents
      one_commit c d stored stored2 same =
          let id : c.id ≡ d.id = one_node known_parents number list_of_number list_of_number-number c.id d.id (sym (stored_node may_fail store c stored) ∙ same ∙ stored_node may_fail store d stored2) in
          sym (known_completes c.id c.commit stored) ∙ ap known_parents id ∙ known_completes d.id d.commit stored2

      parent_found : (c : ReadCommit) (id : List ℕ) → Contains found (Ok c) → Contains c.commit.parents id → IsRead store may_fail found failures_of id
      unfolding failures_of
      parent_found c id at inside =
          let own = expansion_of bytes_eq ids lists yields id_fn neighbors_fn starts found run (walk_of may_fail store known_parents) implemented (start_nodes known_parents) c at in
          let (y, in_run, same_node, is) = labelled_at may_fail store run.expansions own.0 own.1 in
          let n = node own.0.node in
          let yielded = yielded_of bytes_eq ids lists yields id_fn neighbors_fn starts found run (walk_of may_fail store known_parents) implemented (start_nodes known_parents) y in_run in
          let same_parents : y.node.commit.parents ≡ c.commit.parents = one_commit y.node c (found_stored y.node yielded) (found_stored c at) (same_node ∙ ap node own.2) in
          let in_out : Contains run_labelled.0 (Ok n) =
          plain_in run_labelled.0 n (subst (λ (l : List (Result ℕ BackendError)). Contains l (Ok n)) (sym run_labelled.2) (subst (λ (z : ℕ). Contains (numbers found) (Ok z)) (ap node (sym own.2)) (in_map (item_of node) found (Ok c) at))) in
          ⊎_elim (λ (d, given, same).
          inl (read_found d id (reads_sound may_fail store y.node.commit.parents y.items (expansion_reads y in_run) d given).1 same
          (items_yielded bytes_eq ids lists yields id_fn neighbors_fn starts found run (walk_of may_fail store known_parents) implemented (start_nodes known_parents) y in_run (Ok d) given)))
          (λ other.
          ⊎_elim (λ (e, given).
          inr (inl (
            e,
            failures_in run_labelled.0 (id, e)
                (⊎_elim (λ none. absurd (omega (arith, none.1))) (λ closed. closed (Err (id, e)) (subst (λ (l : List Labelled). Contains l (Err (id, e))) (sym is) given))
                (FalliblePreorder-closed (labelled_graph may_fail store run.expansions) (reverse (labels may_fail store all starts)) [] run_labelled.0 run_labelled.1 n in_out)),
          )))
          (λ memory. inr (inr (errors_given bytes_eq ids lists yields id_fn neighbors_fn starts found run (walk_of may_fail store known_parents) implemented (start_nodes known_parents) y in_run Memory memory))) other)
          (covered may_fail store y.node.commit.parents y.items (expansion_reads y in_run) id (subst (λ (l : List (List ℕ)). Contains l id) (sym same_parents) inside))

      are_found_ancestors : AreFoundAncestors store may_fail all found
      are_found_ancestors = record {
        stored = found_stored;
        reached = λ c at parents complete. (node_reached may_fail store parents all c (commit_reached parents complete c at)).0;
        once = distinct_ids (found_ids found) (subst (λ (l : List ℕ). IsDistinct eqb l) (stored_numbers found found_stored) (yielded_once bytes_eq ids lists yields id_fn neighbors_fn starts found run (walk_of may_fail store known_parents) implemented (start_nodes known_parents)));
        failures = failures_of;
        errors = errors_are;
        failed = failed_read;
        starts_read = start_found;
        parents_read = parent_found;
      }

  -- the items of a run are the ancestors found
  pub found_by_run : {F N : Type 0} (ids : Shared F (Bor ReadCommit × Unit {0}) (Result (List ℕ) AllocError)) (lists : Mut N (Bor ReadCommit × Unit {0}) Reads) (id_fn : F) (neighbors_fn : N)
      (all : List (List ℕ)) (starts found : List Item) → IsRun bytes_eq ids lists yields id_fn neighbors_fn starts found
      → ((x : ReadCommit) (i : List ℕ) → ReturnsId ids id_fn x i → i ≡ x.id)
      → ((a : Bor ReadCommit × Unit {0}) (r : Reads) (f : N) → Called lists neighbors_fn a r f → AreReads may_fail store a.0.now.commit.parents (reads_left r) × (f ≡ neighbors_fn))
      → AreReads may_fail store all starts → AreFoundAncestors store may_fail all found
  found_by_run ids lists id_fn neighbors_fn all starts found run same_id reads start_reads = are_found_ancestors ids lists id_fn neighbors_fn same_id reads all starts found start_reads run
