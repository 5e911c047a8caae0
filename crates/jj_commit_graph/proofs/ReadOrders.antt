-- A history order in reverse has each commit after its parents, and is the graph of the history.
use Rattle.std.proofs.Common.{◌≡◌, ◌∙◌, ◌++◌, ◌∷◌, [], ℕ, suc, List, Option, None, Some, get_or, map, reverse, refl, ap, sym, subst, arith}
use Rattle.std.specs.Prelude.{◌↔◌, All}
use Rattle.std.specs.List.{Contains}
use Rattle.std.proofs.lemmas.List.{append_assoc, map-append, reverse-append, reverse-reverse}
use Rattle.std.proofs.lemmas.List.Elements.{All-contains, All-from_get_or, Contains-append_right, Contains-get_or}
use Rattle.std.proofs.lemmas.List.Sorted.{Contains-permutation, IsPermutation-reverse, IsPermutation-sym}
use Rattle.jj_backend.specs.Objects.{Objects}
use Rattle.jj_backend.specs.Records.{CommitValue}
use Rattle.jj_dag.specs.NodeGraph.{ReachesNode}
use Rattle.jj_dag.proofs.Relabelled.{Contains-map, Contains-unmap}
use Rattle.jj_store_walks.specs.Histories.{Completes, IsHistoryOrder, Parents}
use Rattle.jj_store_walks.specs.ReadCommits.{IsStored, id_of}
use Rattle.jj_store_walks.specs.declared.read_commit.ReadCommit.{ReadCommit}
use Rattle.jj_commit_graph.specs.CommitGraphs.{CommitParents, IsGraphOf}
use Rattle.jj_commit_graph.specs.Numberings.{AreParentsFirst, parents_of}
use Rattle.jj_commit_graph.proofs.Orders.{not_after, same_suffix}

-- a history that agrees with the store: commits that it lacks have no parents
abbrev parents_found : Option CommitValue → List (List ℕ)
parents_found None = []
parents_found (Some commit) = commit.parents

abbrev parents_in : Objects → Parents
parents_in store id = parents_found (store.commits id)

complete_in : (store : Objects) → Completes store (parents_in store)
complete_in store id commit is = ap parents_found is

-- elements stay in a list that is reversed
from_reversed : {A : Type 0} (xs : List A) (x : A) → Contains (reverse xs) x → Contains xs x
from_reversed xs x among = Contains-permutation (reverse xs) xs x (IsPermutation-sym xs (reverse xs) (IsPermutation-reverse xs)) among

to_reversed : {A : Type 0} (xs : List A) (x : A) → Contains xs x → Contains (reverse xs) x
to_reversed xs x among = Contains-permutation xs (reverse xs) x (IsPermutation-reverse xs) among

ids_from_reversed : (xs : List ReadCommit) (id : List ℕ) → Contains (map id_of (reverse xs)) id → Contains (map id_of xs) id
ids_from_reversed xs id among =
    let m = Contains-unmap id_of (reverse xs) id among in
    subst (Contains (map id_of xs)) m.2 (Contains-map id_of xs m.0 (from_reversed xs m.0 m.1))

ids_to_reversed : (xs : List ReadCommit) (id : List ℕ) → Contains (map id_of xs) id → Contains (map id_of (reverse xs)) id
ids_to_reversed xs id among =
    let m = Contains-unmap id_of xs id among in
    subst (Contains (map id_of (reverse xs))) m.2 (Contains-map id_of (reverse xs) m.0 (to_reversed xs m.0 m.1))

module _ (store : Objects) (starts : List (List ℕ)) (order : List ReadCommit) (k : IsHistoryOrder store starts order) where
  -- the ids around a commit
  ids_around : (before after : List ReadCommit) (c : ReadCommit) → reverse order ≡ before ++ c ∷ after
      → map id_of order ≡ map id_of (reverse after) ++ c.id ∷ map id_of (reverse before)
  ids_around before after c split =
      let reversed_split : reverse (before ++ c ∷ after) ≡ reverse after ++ c ∷ reverse before =
      reverse-append before (c ∷ after) ∙ ap (λ l. l ++ reverse before) (reverse-append (c ∷ []) after) ∙ append_assoc (reverse after) (c ∷ []) (reverse before) in
      ap (map id_of) (sym (reverse-reverse order) ∙ ap reverse split ∙ reversed_split)
      ∙ map-append id_of (reverse after) (c ∷ reverse before)

  stored_at : (before after : List ReadCommit) (c : ReadCommit) → reverse order ≡ before ++ c ∷ after → IsStored store c
  stored_at before after c split =
      let among : Contains (reverse order) c = subst (λ l. Contains l c) (sym split) (Contains-append_right before (c ∷ after) c (0, omega arith, refl)) in
      All-contains (IsStored store) order c (k (parents_in store) (complete_in store)).2 (from_reversed order c among)

  pub parents_first : AreParentsFirst (reverse order)
  parents_first before after c split =
      let parents = parents_in store in
      let child_first = (k parents (complete_in store)).1 in
      let ids = ids_around before after c split in
      let inside : Contains (map id_of order) c.id = subst (λ l. Contains l c.id) (sym ids) (Contains-append_right (map id_of (reverse after)) (c.id ∷ map id_of (reverse before)) c.id (0, omega arith, refl)) in (
        All-from_get_or (Contains (map id_of before)) c.commit.parents [] (λ i below.
            let p = get_or c.commit.parents i [] in
            let edge : Contains (parents c.id) p = subst (λ l. Contains l p) (sym (complete_in store c.id c.commit (stored_at before after c split))) (Contains-get_or c.commit.parents i [] below) in
            let (front, back, again, later) = child_first.before c.id p inside (0, (p, edge, refl)) in
            ids_from_reversed before p (subst (λ l. Contains l p) (same_suffix (map id_of order) child_first.once front back (map id_of (reverse after)) (map id_of (reverse before)) c.id again ids) later)),
        λ earlier. not_after (map id_of order) child_first.once (map id_of (reverse after)) (map id_of (reverse before)) c.id ids (ids_to_reversed before c.id earlier),
      )

  -- the parents of commits that are stored
  stored_parents : (parents : Parents) → Completes store parents → (commits : List ReadCommit) → All (IsStored store) commits → map parents (map id_of commits) ≡ map parents_of commits
  stored_parents parents complete [] stored = refl
  stored_parents parents complete (c ∷ commits) stored =
      let first : parents c.id ≡ c.commit.parents = complete c.id c.commit (stored 0 c (omega arith)) in
      let rest : map parents (map id_of commits) ≡ map parents_of commits = stored_parents parents complete commits (λ n d within. stored (suc n) d (omega (arith, within))) in
      λ i. first i ∷ rest i

  module _ (graph : CommitParents) (ids : graph.ids ≡ map id_of (reverse order)) (lists : graph.parents ≡ map parents_of (reverse order)) where
    members : (parents : Parents) → Completes store parents → (id : List ℕ) → Contains graph.ids id ↔ ReachesNode parents starts id
    members parents complete id =
        let child_first = (k parents complete).1 in (
          (λ among. (child_first.all id).0 (ids_from_reversed order id (subst (λ l. Contains l id) ids among))),
          λ reached. subst (λ l. Contains l id) (sym ids) (ids_to_reversed order id ((child_first.all id).1 reached)),
        )

    pub graph_of_history : IsGraphOf store starts graph
    graph_of_history parents complete =
        let stored : All (IsStored store) (reverse order) = λ n d within. All-contains (IsStored store) order (get_or (reverse order) n d) (k parents complete).2 (from_reversed order (get_or (reverse order) n d) (Contains-get_or (reverse order) n d within)) in
        (ap (map parents) ids ∙ stored_parents parents complete (reverse order) stored ∙ sym lists, members parents complete)

    pub starts_known : All (Contains graph.ids) starts
    starts_known = All-from_get_or (Contains graph.ids) starts [] (λ i below.
        let id = get_or starts i [] in
        (members (parents_in store) (complete_in store) id).1 (id, Contains-get_or starts i [] below, (0, refl)))
