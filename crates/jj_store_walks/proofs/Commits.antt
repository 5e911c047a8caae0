-- Closures that read commits of a store implement each history that agrees with the store.
use Rattle.std.proofs.Common.{◌≡◌, ℕ, suc, ◌==◌, Bool, true, false, not, cond, List, [], ◌∷◌, ◌++◌, get_or, map, Option, Some, None, Result, Ok, Err, IfOk, refl, sym, ◌∙◌, ap, subst, true≢false, inl, inr, arith}
use Rattle.std.specs.Prelude.{All, IfErr}
use Rattle.std.specs.Cmp.Lexicographic.{nat_list_cmp_total, slice_cmp}
use Rattle.std.specs.Ordering.{is_eq, nat_cmp}
use Rattle.std.specs.Str.{bytes_eq}
use Rattle.std.specs.Fn.{Called, Mut, Shared}
use Rattle.std.specs.Global.{Global}
use Rattle.std.specs.List.{Contains}
use Rattle.std.specs.declared.alloc.AllocError.{AllocError}
use Rattle.std.specs.declared.cmp.Ordering.TheVariants.{Less}
use Rattle.std.specs.declared.vec.Vec.{Vec}
use Rattle.std.proofs.lemmas.Fn.{always_returns_same}
use Rattle.std.proofs.lemmas.Iterator.{YieldsList}
use Rattle.std.proofs.lemmas.List.{get_or-map, length-map, map-append}
use Rattle.std.proofs.lemmas.List.Elements.{All-contains}
use Rattle.std.proofs.lemmas.Map.Text.{is_eq-slice_cmp}
use Rattle.std.proofs.lemmas.Slice.Eq.{bytes_eq-Decides}
use denote.Ref.{Bor}
use Rattle.jj_backend.specs.Objects.{Objects}
use Rattle.jj_backend.specs.RecordLaws.{commit_equiv}
use Rattle.jj_backend.specs.Records.{CommitValue, commit_eq}
use Rattle.jj_backend.specs.declared.backend.errors.BackendError.{BackendError}
use Rattle.jj_dag.specs.ClosureGraph.{Implements, MayReturn, ReturnsId, YieldsOk}
use Rattle.jj_dag.specs.CommonNodes.{AreClosestCommon, HasNoCommonCycle}
use Rattle.jj_dag.specs.Graph.{Graph, IsAcyclicFrom, IsTopologicalOrder, ReachedFrom}
use Rattle.jj_dag.specs.GreatestOrder.{IsGreatestOrder}
use Rattle.jj_dag.specs.NodeGraph.{IsGreatestChildFirstOrder, AreMaximalNodes, HasNoCommonNodeCycle, IsChildFirstOrder, IsCommonNode, ReachesNoCycle, ReachesNode}
use Rattle.jj_dag.specs.Walk.{DrainsTo, GraphModel}
use Rattle.jj_dag.proofs.ClosureGraphs.{may_return_says}
use Rattle.jj_dag.proofs.GreatestOrders.{greatest_nodes, less_back}
use Rattle.jj_dag.proofs.ListNumbers.{list_of_number, list_of_number-number, number}
use Rattle.jj_dag.proofs.NodeGraphs.{Contains-from_map, child_first_nodes, closest_nodes, no_common_cycle_up, no_cycle_back, numbers_graph, one_node, reached_down, reaches_more}
use Rattle.jj_walks.proofs.Callers.{drained, implements_by, number_eq, number_is_node}
use Rattle.jj_store_walks.specs.Histories.{Completes, InEachHistory, IsErrorBelow, Parents}
use Rattle.jj_store_walks.specs.ReadCommits.{AreParentIds, IsErrorOfIds, IsReadError, IsStored, id_of}
use Rattle.jj_store_walks.specs.declared.read_commit.ReadCommit.{ReadCommit}
use Rattle.jj_store_walks.proofs.SameCommits.{same_commit}

-- the graph of the numbers of ids
abbrev pub id_graph : Parents → Graph
id_graph parents = numbers_graph parents number list_of_number list_of_number-number

module _ (may_fail : BackendError → Type 0) (store : Objects) where
  -- ---- nodes that are ids

  -- each number is a node
  abbrev pub walk_of_ids : Parents → GraphModel (List ℕ) (List ℕ)
  walk_of_ids parents = record { graph = id_graph parents; is_node = λ a. true; node = number; id = number }

  abbrev pub Reads : List ℕ → Result (Vec (List ℕ) Global) BackendError → Type 0
  Reads id r = AreParentIds may_fail store id r

  module _ {S : Type 0} (becomes : Vec (List ℕ) Global → S → Type 0) (steps : S → Option (List ℕ) → S → Type 0)
      (items : (v : Vec (List ℕ) Global) (it : S) → becomes v it → YieldsList steps (λ y. y) it v.items) where
    listed_ids : (parents : Parents) → Completes store parents → (id : List ℕ) (r : Result (Vec (List ℕ) Global) BackendError) → Reads id r → (xs : List (List ℕ)) → YieldsOk (DrainsTo becomes steps) r xs
        → map number xs ≡ id_graph parents (number id)
    listed_ids parents complete id (Err e) read xs d = absurd d
    listed_ids parents complete id (Ok v) (commit, is, same) xs d =
        ap (map number) (drained becomes steps v v.items xs (items v) d ∙ same ∙ sym (complete id commit is) ∙ ap parents (sym (list_of_number-number id)))

    pub implements_ids : {F N : Type 0} (ids : Shared F (Bor (List ℕ) × Unit {0}) (Result (List ℕ) AllocError)) (lists : Mut N (Bor (List ℕ) × Unit {0}) (Result (Vec (List ℕ) Global) BackendError)) (id_fn : F) (neighbors_fn : N)
        → ((x i : List ℕ) → ReturnsId ids id_fn x i → i ≡ x)
        → ((a : Bor (List ℕ) × Unit {0}) (r : Result (Vec (List ℕ) Global) BackendError) (f : N) → Called lists neighbors_fn a r f → Reads a.0.now r × (f ≡ neighbors_fn))
        → (parents : Parents) → Completes store parents → Implements (walk_of_ids parents) bytes_eq ids lists (YieldsOk (DrainsTo becomes steps)) id_fn neighbors_fn
    implements_ids ids lists id_fn neighbors_fn same_id reads parents complete =
        implements_by (walk_of_ids parents) bytes_eq ids lists (YieldsOk (DrainsTo becomes steps)) id_fn neighbors_fn (λ a h b at. refl) (λ i j h k. number_eq i j) (λ x i h returned. ap number (same_id x i returned))
        (λ a r f h. let k = reads a r f h in (λ xs here d. listed_ids parents complete a.0.now r k.0 xs d, k.1))

  -- an error that the closure may return is one of reading
  pub may_read_ids : {N : Type 0} (lists : Mut N (Bor (List ℕ) × Unit {0}) (Result (Vec (List ℕ) Global) BackendError)) (neighbors_fn : N)
      → ((a : Bor (List ℕ) × Unit {0}) (r : Result (Vec (List ℕ) Global) BackendError) (f : N) → Called lists neighbors_fn a r f → Reads a.0.now r × (f ≡ neighbors_fn))
      → (x : List ℕ) (e : BackendError) → ((r : Result (Vec (List ℕ) Global) BackendError) × MayReturn lists neighbors_fn x r × (r ≡ Err e)) → IsReadError may_fail store e x
  may_read_ids lists neighbors_fn reads x e (r, may, is) = subst (Reads x) is (may_return_says lists Reads (always_returns_same lists _ neighbors_fn reads) may)

  -- ---- nodes that are commits with their ids

  -- whether this is the commit that was found
  abbrev pub is_found : Option CommitValue → CommitValue → Bool
  is_found None c = false
  is_found (Some found) c = commit_eq found c

  -- a stored commit is the number of its id, another one is 0
  abbrev pub node_of : ReadCommit → ℕ
  node_of c = cond (is_found (store.commits c.id) c.commit) (number c.id) 0

  -- each number but 0 is a node
  abbrev pub walk_of : Parents → GraphModel ReadCommit (List ℕ)
  walk_of parents = record { graph = id_graph parents; is_node = λ a. not (a == 0); node = node_of; id = number }

  found_commit : (found : Option CommitValue) (c : CommitValue) → is_found found c ≡ true → found ≡ Some c
  found_commit None c h = absurd cc
  found_commit (Some d) c h = ap Some (same_commit d c h)

  pub known_node : (c : ReadCommit) → not (node_of c == 0) ≡ true → (node_of c ≡ number c.id) × IsStored store c
  known_node c is = by_test (is_found (store.commits c.id) c.commit) refl is
    where
      by_test : (t : Bool) → is_found (store.commits c.id) c.commit ≡ t → not (cond t (number c.id) 0 == 0) ≡ true → (cond t (number c.id) 0 ≡ number c.id) × IsStored store c
      by_test true e h = (refl, found_commit (store.commits c.id) c.commit e)
      by_test false e h = absurd (true≢false (sym h))

  pub stored_node : (c : ReadCommit) → IsStored store c → node_of c ≡ number c.id
  stored_node c stored =
      let found : is_found (store.commits c.id) c.commit ≡ true = ap (λ o. is_found o c.commit) stored ∙ commit_equiv.refl c.commit in
      ap (λ t. cond t (number c.id) 0) found

  pub stored_nodes : (xs : List ReadCommit) → All (IsStored store) xs → map node_of xs ≡ map number (map id_of xs)
  stored_nodes [] all = refl
  stored_nodes (c ∷ xs) all =
      let first : node_of c ≡ number c.id = stored_node c (all 0 c (omega arith)) in
      let rest : map node_of xs ≡ map number (map id_of xs) = stored_nodes xs (λ k d within. all (suc k) d (omega arith)) in
      λ i. first i ∷ rest i

  -- commits whose nodes are ids are stored
  pub nodes_stored : (xs : List ReadCommit) → ((a : ℕ) → Contains (map node_of xs) a → (y : List ℕ) × (a ≡ number y)) → All (IsStored store) xs
  nodes_stored xs of k d within =
      let c = get_or xs k d in
      let y = of (node_of c) (k, omega (arith, length-map xs node_of), get_or-map node_of xs k d (node_of c) within) in
      (known_node c (subst (λ a. not (a == 0) ≡ true) (sym y.1) (number_is_node y.0))).1

  -- the results of `read_all` for these ids
  abbrev pub ReadsAll : List (List ℕ) → Result (Vec ReadCommit Global) BackendError → Type 0
  ReadsAll ids r = IfOk r (λ v. map id_of v.items ≡ ids) × IfOk r (λ v. All (IsStored store) v.items) × IfErr r (IsErrorOfIds may_fail store ids)

  -- the stored parents of a node are its neighbors
  pub listed_commits : (parents : Parents) → Completes store parents → (c : ReadCommit) → not (node_of c == 0) ≡ true → (xs : List ReadCommit)
      → map id_of xs ≡ c.commit.parents → All (IsStored store) xs → map node_of xs ≡ id_graph parents (node_of c)
  listed_commits parents complete c here xs ids stored =
      let known = known_node c here in
      stored_nodes xs stored
      ∙ ap (map number) (ids ∙ sym (complete c.id c.commit known.1) ∙ ap parents (sym (list_of_number-number c.id)))
      ∙ ap (id_graph parents) (sym known.0)

  pub listed_from : (parents : Parents) → Completes store parents → (c : ReadCommit) → not (node_of c == 0) ≡ true → (v : Vec ReadCommit Global) (xs : List ReadCommit) → xs ≡ v.items
      → map id_of v.items ≡ c.commit.parents → All (IsStored store) v.items → map node_of xs ≡ id_graph parents (node_of c)
  listed_from parents complete c here v xs same ids stored = ap (map node_of) same ∙ listed_commits parents complete c here v.items ids stored

  module _ {S : Type 0} (becomes : Vec ReadCommit Global → S → Type 0) (steps : S → Option ReadCommit → S → Type 0)
      (items : (v : Vec ReadCommit Global) (it : S) → becomes v it → YieldsList steps (λ y. y) it v.items) where
    listed : (parents : Parents) → Completes store parents → (c : ReadCommit) → not (node_of c == 0) ≡ true → (r : Result (Vec ReadCommit Global) BackendError) → ReadsAll c.commit.parents r
        → (xs : List ReadCommit) → YieldsOk (DrainsTo becomes steps) r xs → map node_of xs ≡ id_graph parents (node_of c)
    listed parents complete c here (Err e) read xs d = absurd d
    listed parents complete c here (Ok v) (ids, stored, none) xs d = listed_from parents complete c here v xs (drained becomes steps v v.items xs (items v) d) ids stored

  pub implements_commits : {F N R : Type 0} (ids : Shared F (Bor ReadCommit × Unit {0}) (Result (List ℕ) AllocError)) (lists : Mut N (Bor ReadCommit × Unit {0}) R) (yields : R → List ReadCommit → Type 0) (id_fn : F) (neighbors_fn : N) (parents : Parents)
      → ((x : ReadCommit) (i : List ℕ) → ReturnsId ids id_fn x i → i ≡ x.id)
      → ((a : Bor ReadCommit × Unit {0}) (r : R) (f : N) → Called lists neighbors_fn a r f → ((xs : List ReadCommit) → not (node_of a.0.now == 0) ≡ true → yields r xs → map node_of xs ≡ id_graph parents (node_of a.0.now)) × (f ≡ neighbors_fn))
      → Implements (walk_of parents) bytes_eq ids lists yields id_fn neighbors_fn
  implements_commits ids lists yields id_fn neighbors_fn parents same_id reads =
      implements_by (walk_of parents) bytes_eq ids lists yields id_fn neighbors_fn
      (λ a h b inside.
      let r = Contains-from_map number (parents (list_of_number a)) b inside in
      subst (λ x. not (x == 0) ≡ true) (sym r.1) (number_is_node r.0))
      (λ i j h k. number_eq i j) (λ x i here returned. ap number (same_id x i returned) ∙ sym (known_node x here).0) reads

  module _ {S : Type 0} (becomes : Vec ReadCommit Global → S → Type 0) (steps : S → Option ReadCommit → S → Type 0)
      (items : (v : Vec ReadCommit Global) (it : S) → becomes v it → YieldsList steps (λ y. y) it v.items) where
    pub implements : {F N : Type 0} (ids : Shared F (Bor ReadCommit × Unit {0}) (Result (List ℕ) AllocError)) (lists : Mut N (Bor ReadCommit × Unit {0}) (Result (Vec ReadCommit Global) BackendError)) (id_fn : F) (neighbors_fn : N)
        → ((x : ReadCommit) (i : List ℕ) → ReturnsId ids id_fn x i → i ≡ x.id)
        → ((a : Bor ReadCommit × Unit {0}) (r : Result (Vec ReadCommit Global) BackendError) (f : N) → Called lists neighbors_fn a r f → ReadsAll a.0.now.commit.parents r × (f ≡ neighbors_fn))
        → (parents : Parents) → Completes store parents → Implements (walk_of parents) bytes_eq ids lists (YieldsOk (DrainsTo becomes steps)) id_fn neighbors_fn
    implements ids lists id_fn neighbors_fn same_id reads parents complete =
        implements_commits ids lists (YieldsOk (DrainsTo becomes steps)) id_fn neighbors_fn parents same_id (λ a r f h. let k = reads a r f h in (λ xs here d. listed becomes steps items parents complete a.0.now here r k.0 xs d, k.1))

  -- an error that the closure may return for a commit is one of reading its parents
  pub may_read : {N : Type 0} (lists : Mut N (Bor ReadCommit × Unit {0}) (Result (Vec ReadCommit Global) BackendError)) (neighbors_fn : N)
      → ((a : Bor ReadCommit × Unit {0}) (r : Result (Vec ReadCommit Global) BackendError) (f : N) → Called lists neighbors_fn a r f → ReadsAll a.0.now.commit.parents r × (f ≡ neighbors_fn))
      → (x : ReadCommit) (e : BackendError) → ((r : Result (Vec ReadCommit Global) BackendError) × MayReturn lists neighbors_fn x r × (r ≡ Err e)) → IsErrorOfIds may_fail store x.commit.parents e
  may_read lists neighbors_fn reads x e (r, may, is) =
      let says : ReadsAll x.commit.parents r = may_return_says lists (λ c s. ReadsAll c.commit.parents s) (always_returns_same lists _ neighbors_fn reads) may in
      (subst (ReadsAll x.commit.parents) is says).2

  -- a node that the ids reach is a stored ancestor
  pub node_reached : (parents : Parents) (ids : List (List ℕ)) (x : ReadCommit) → ReachedFrom (id_graph parents) (map number ids) (node_of x) → ReachesNode parents ids x.id × IsStored store x
  node_reached parents ids x reached =
      let r = reached_down parents number list_of_number list_of_number-number ids (node_of x) reached in
      let known = known_node x (subst (λ a. not (a == 0) ≡ true) (sym r.1) (number_is_node r.0)) in
      let same : r.0 ≡ x.id = one_node parents number list_of_number list_of_number-number r.0 x.id (sym r.1 ∙ known.0) in
      (subst (ReachesNode parents ids) same r.2, known.1)

  -- and so is each of its parents
  pub parent_reached : (parents : Parents) → Completes store parents → (ids : List (List ℕ)) (x : ReadCommit) (id : List ℕ) → ReachedFrom (id_graph parents) (map number ids) (node_of x) → Contains x.commit.parents id
      → ReachesNode parents ids id
  parent_reached parents complete ids x id reached inside =
      let k = node_reached parents ids x reached in
      reaches_more parents ids x.id id k.0 (subst (λ l. Contains l id) (sym (complete x.id x.commit k.1)) inside)

  -- an error of reading the parents of a node that the ids reach is one of a commit that they reach
  pub error_below : (ids : List (List ℕ)) (x : ReadCommit) (e : BackendError) → InEachHistory store (λ parents. ReachedFrom (id_graph parents) (map number ids) (node_of x))
      → IsErrorOfIds may_fail store x.commit.parents e → IsErrorBelow store may_fail ids e
  error_below ids x e reached (inl memory) = inl memory
  error_below ids x e reached (inr (k, id, within, at, read)) =
      inr (record { id = id; reached = λ parents complete. parent_reached parents complete ids x id (reached parents complete) (k, within, at); read = read })

  -- an error of reading the ids
  pub error_at : (ids all : List (List ℕ)) (e : BackendError) → ((id : List ℕ) → Contains ids id → Contains all id) → IsErrorOfIds may_fail store ids e → IsErrorBelow store may_fail all e
  error_at ids all e within_all (inl memory) = inl memory
  error_at ids all e within_all (inr (k, id, within, at, read)) =
      inr (record { id = id; reached = λ parents complete. (id, within_all id (k, within, at), (0, refl)); read = read })

  -- the nodes of commits that were read
  pub starts_are : (v : Vec ReadCommit Global) (xs : List ReadCommit) (ids : List (List ℕ)) → xs ≡ v.items → map id_of v.items ≡ ids → All (IsStored store) v.items → map node_of xs ≡ map number ids
  starts_are v xs ids same of_ids stored = ap (map node_of) same ∙ stored_nodes v.items stored ∙ ap (map number) of_ids

  pub are_nodes : (ns : List ℕ) (ids : List (List ℕ)) → ns ≡ map number ids → (a : ℕ) → Contains ns a → not (a == 0) ≡ true
  are_nodes ns ids same a inside =
      let r = Contains-from_map number ids a (subst (λ l. Contains l a) same inside) in
      subst (λ x. not (x == 0) ≡ true) (sym r.1) (number_is_node r.0)

  pub bases_from : (parents : Parents) (set1 set2 : List (List ℕ)) (ns1 ns2 : List ℕ) (xs : List ReadCommit) → ns1 ≡ map number set1 → ns2 ≡ map number set2 → HasNoCommonNodeCycle parents set1 set2
      → (HasNoCommonCycle (id_graph parents) ns1 ns2 → AreClosestCommon (id_graph parents) ns1 ns2 (map node_of xs)) → AreMaximalNodes parents (IsCommonNode parents set1 set2) (map id_of xs) × All (IsStored store) xs
  bases_from parents set1 set2 ns1 ns2 xs first second none closest =
      let g = id_graph parents in
      let P : List ℕ → List ℕ → Type 0 = λ ns ms. HasNoCommonCycle g ns ms → AreClosestCommon g ns ms (map node_of xs) in
      let of_ids : P (map number set1) (map number set2) = subst (P (map number set1)) second (subst (λ ns. P ns ns2) first closest) in
      let holds = of_ids (no_common_cycle_up parents number list_of_number list_of_number-number set1 set2 none) in
      let stored = nodes_stored xs (λ a inside. let r = reached_down parents number list_of_number list_of_number-number set1 a ((holds.all a).0 inside).0.0 in (r.0, r.1)) in
      (closest_nodes parents number list_of_number list_of_number-number set1 set2 (map id_of xs) (subst (AreClosestCommon g (map number set1) (map number set2)) (stored_nodes xs stored) holds), stored)

  pub order_from : (parents : Parents) (ids : List (List ℕ)) (ns : List ℕ) (xs : List ReadCommit) → ns ≡ map number ids → IsTopologicalOrder (id_graph parents) ns (map node_of xs) → IsAcyclicFrom (id_graph parents) ns
      → ReachesNoCycle parents ids × IsChildFirstOrder parents ids (map id_of xs) × All (IsStored store) xs
  order_from parents ids ns xs same child_first none =
      let g = id_graph parents in
      let holds : IsTopologicalOrder g (map number ids) (map node_of xs) = subst (λ l. IsTopologicalOrder g l (map node_of xs)) same child_first in
      let stored = nodes_stored xs (λ a inside. let r = reached_down parents number list_of_number list_of_number-number ids a ((holds.all a).0 inside) in (r.0, r.1)) in (
        no_cycle_back parents number list_of_number list_of_number-number ids (subst (IsAcyclicFrom g) same none),
        child_first_nodes parents number list_of_number list_of_number-number ids (map id_of xs) (subst (IsTopologicalOrder g (map number ids)) (stored_nodes xs stored) holds),
        stored,
      )

  pub greatest_from : (parents : Parents) (ids : List (List ℕ)) (ns : List ℕ) (xs : List ReadCommit) → ns ≡ map number ids → IsGreatestOrder (λ a b. slice_cmp nat_cmp (id_of a) (id_of b)) (walk_of parents) ns xs
      → IsGreatestChildFirstOrder (λ a b. slice_cmp nat_cmp a b ≡ Less) parents ids (map id_of xs)
  greatest_from parents ids ns xs same k =
      let holds : IsGreatestOrder (λ a b. slice_cmp nat_cmp (id_of a) (id_of b)) (walk_of parents) (map number ids) xs = subst (λ l. IsGreatestOrder (λ a b. slice_cmp nat_cmp (id_of a) (id_of b)) (walk_of parents) l xs) same k in
      let (none, child, stored) = order_from parents ids (map number ids) xs refl holds.child_first holds.no_cycle in
      greatest_nodes parents number list_of_number list_of_number-number (λ a b. slice_cmp nat_cmp (id_of a) (id_of b)) node_of id_of (λ a b. slice_cmp nat_cmp a b ≡ Less) ids xs holds.greatest
      (λ x inside. stored_node x (All-contains (IsStored store) xs x stored inside))
      (λ x y differ told. less_back nat_list_cmp_total (λ a b tied. (bytes_eq-Decides a b).0 (sym (is_eq-slice_cmp a b) ∙ ap is_eq tied)) (id_of x) (id_of y) differ told) child

  pub reached_from_both : (parents : Parents) (set1 set2 : List (List ℕ)) (ns1 ns2 : List ℕ) (b : ℕ) → ns1 ≡ map number set1 → ns2 ≡ map number set2 → ReachedFrom (id_graph parents) (ns1 ++ ns2) b
      → ReachedFrom (id_graph parents) (map number (set1 ++ set2)) b
  reached_from_both parents set1 set2 ns1 ns2 b first second reached =
      let same : ns1 ++ ns2 ≡ map number (set1 ++ set2) = ap (λ l. l ++ ns2) first ∙ ap (λ l. map number set1 ++ l) second ∙ sym (map-append number set1 set2) in
      subst (λ l. ReachedFrom (id_graph parents) l b) same reached
