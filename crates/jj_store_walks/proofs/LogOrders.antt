-- A grouped order of the commits of a topological order is one too.
use Rattle.std.proofs.Common.{◌≡◌, ◌≢◌, ℕ, zero, suc, Bool, true, false, not, ◌||◌, Option, None, Some, List, [], ◌∷◌, ◌++◌, get_or, find, map, reverse, Result, Ok, refl, sym, ◌∙◌, ap, subst, true≢false, ⊎_elim, append-nil, append_assoc, MatchOption}
use Rattle.std.specs.Prelude.{All, AllPairs, ⊤}
use Rattle.std.specs.Fn.{Shared, FnReturnsAt}
use Rattle.std.specs.List.{AllZip, Contains, list_any}
use Rattle.std.specs.Str.{bytes_eq}
use Rattle.std.proofs.lemmas.Bool.{or_cases, or_left, or_right}
use Rattle.std.proofs.lemmas.Cmp.{nat_list_eq_equiv}
use Rattle.std.proofs.lemmas.List.{map-append, reverse-append, reverse-reverse}
use Rattle.std.proofs.lemmas.List.Elements.{Contains-append_right, Contains-get_or}
use Rattle.std.proofs.lemmas.Slice.Eq.{bytes_eq-Decides}
use denote.Ref.{Bor}
use Rattle.jj_backend.specs.Objects.{Objects}
use Rattle.jj_backend.specs.Records.{CommitValue}
use Rattle.jj_dag.specs.NodeGraph.{IsChildFirstOrder, IsNodeBefore, NodePath, ReachesNode, StrictlyReachesNode}
use Rattle.jj_dag.proofs.NodeGraphs.{reaches_more}
use Rattle.jj_dag.proofs.Wrapped.{ok_same}
use Rattle.jj_walks.specs.declared.graph.GraphEdge.{GraphEdge}
use Rattle.jj_walks.specs.Grouped.{AreReadChildFirst, Entry, leads_to, targets_of}
use Rattle.jj_walks.specs.GroupedOrders.{AreApart, AreGrouped, IsGroupedOrder, IsWhole, MayFollow, has_node, is_ready, newest_edges}
use Rattle.jj_walks.specs.GroupedSteps.{IsEntryOf, Item}
use Rattle.jj_walks.specs.PendingNodes.{item_of, listed_item}
use Rattle.jj_walks.specs.GroupedLaw.{IsUnread}
use Rattle.jj_walks.specs.declared.grouped.GroupedNodes.{GroupedNodes}
use Rattle.jj_walks.proofs.WholeGroupedRuns.{yields-grouped-orders}
use Rattle.std.specs.Iterator.{Drains}
use Rattle.jj_walks.proofs.DistinctLists.{HasNoRepeat, all_at, back_in_map, before_turned, false_from, map_turned, no_repeat, not_again, not_before, nothing, once_turned, split_at, same_all, unturned}
use Rattle.jj_walks.proofs.Expanding.{at_first, first_or_rest, in_map, in_rest, in_reverse}
use Rattle.jj_store_walks.specs.Histories.{Completes, IsGroupedHistory, IsHistoryOrder, Parents}
use Rattle.jj_store_walks.specs.Logs.{AreLogItems, YieldsLogNodes, direct_edges, log_node, log_nodes}
use Rattle.std.specs.Global.{Global}
use Rattle.std.specs.declared.vec.Vec.{Vec}
use Rattle.jj_store_walks.specs.declared.order.HistoryError.{HistoryError}
use Rattle.jj_store_walks.specs.ReadCommits.{IsStored, id_of}
use Rattle.jj_store_walks.specs.declared.read_commit.ReadCommit.{ReadCommit}

abbrev Node : Type 0
Node = Entry ReadCommit (List ℕ)

-- ---- edges and ids

same_id : (a b : List ℕ) → bytes_eq a b ≡ true → a ≡ b
same_id a b h = (bytes_eq-Decides a b).0 h

leads_in : (ids : List (List ℕ)) (i : List ℕ) → list_any (leads_to bytes_eq i) (direct_edges ids) ≡ true → Contains ids i
leads_in [] i h = absurd cc
leads_in (a ∷ ids) i h =
    ⊎_elim (λ here. subst (λ z. Contains (a ∷ ids) z) (same_id a i here) (at_first a ids)) (λ there. in_rest a ids i (leads_in ids i there)) (or_cases (bytes_eq a i) (list_any (leads_to bytes_eq i) (direct_edges ids)) h)

leads_out : (ids : List (List ℕ)) (i : List ℕ) → Contains ids i → list_any (leads_to bytes_eq i) (direct_edges ids) ≡ true
leads_out [] i h = nothing h
leads_out (a ∷ ids) i h =
    ⊎_elim (λ here. or_left (bytes_eq a i) (list_any (leads_to bytes_eq i) (direct_edges ids)) ((bytes_eq-Decides a i).1 here))
    (λ there. or_right (bytes_eq a i) (list_any (leads_to bytes_eq i) (direct_edges ids)) (leads_out ids i there)) (first_or_rest a ids i h)

-- nodes of commits, the newest first
abbrev nodes : List ReadCommit → List Node
nodes newest = map log_node newest

has_id : (newest : List ReadCommit) (i : List ℕ) → has_node bytes_eq (nodes newest) i ≡ true → Contains (map id_of newest) i
has_id [] i h = absurd cc
has_id (c ∷ newest) i h =
    ⊎_elim (λ here. subst (λ z. Contains (c.id ∷ map id_of newest) z) (same_id c.id i here) (at_first c.id (map id_of newest)))
    (λ there. in_rest c.id (map id_of newest) i (has_id newest i there)) (or_cases (bytes_eq c.id i) (has_node bytes_eq (nodes newest) i) h)

id_has : (newest : List ReadCommit) (i : List ℕ) → Contains (map id_of newest) i → has_node bytes_eq (nodes newest) i ≡ true
id_has [] i h = nothing h
id_has (c ∷ newest) i h =
    ⊎_elim (λ here. or_left (bytes_eq c.id i) (has_node bytes_eq (nodes newest) i) ((bytes_eq-Decides c.id i).1 here))
    (λ there. or_right (bytes_eq c.id i) (has_node bytes_eq (nodes newest) i) (id_has newest i there)) (first_or_rest c.id (map id_of newest) i h)

newest_of : (order : List ReadCommit) → log_nodes order ≡ nodes (reverse order)
newest_of order = sym (map_turned log_node order)

-- ---- a topological order of commits is one of nodes

module _ (store : Objects) (parents : Parents) (complete : Completes store parents) (ids : List (List ℕ)) (read : List ReadCommit) (child_first : IsChildFirstOrder parents ids (map id_of read)) (stored : All (IsStored store) read) where
  once : HasNoRepeat (map id_of read)
  once = no_repeat (map id_of read) child_first.once

  its_parents : (c : ReadCommit) → Contains read c → parents c.id ≡ c.commit.parents
  its_parents c (k, less, at) = complete c.id c.commit (subst (IsStored store) at (stored k c less))

  -- each parent of a commit that was read was read
  pub parent_read : (c : ReadCommit) (i : List ℕ) → Contains read c → Contains c.commit.parents i → Contains (map id_of read) i
  parent_read c i here inside =
      (child_first.all i).1 (reaches_more parents ids c.id i ((child_first.all c.id).0 (in_map id_of read c here)) (subst (λ (l : List (List ℕ)). Contains l i) (sym (its_parents c here)) inside))

  -- none has an edge to itself or an earlier one
  no_edge : (front back : List ReadCommit) (c f : ReadCommit) → read ≡ front ++ c ∷ back → Contains (front ++ c ∷ []) f → list_any (leads_to bytes_eq f.id) (direct_edges c.commit.parents) ≡ false
  no_edge front back c f split earlier = false_from (list_any (leads_to bytes_eq f.id) (direct_edges c.commit.parents)) (λ leads.
      let here : Contains read c = subst (λ (l : List ReadCommit). Contains l c) (sym split) (Contains-append_right front (c ∷ back) c (at_first c back)) in
      let inside : Contains (parents c.id) f.id = subst (λ (l : List (List ℕ)). Contains l f.id) (sym (its_parents c here)) (leads_in c.commit.parents f.id leads) in
      let (front2, back2, split2, after) = child_first.before c.id f.id (in_map id_of read c here) (0, (f.id, inside, refl)) in
      let by_ids : map id_of read ≡ map id_of front ++ c.id ∷ map id_of back = ap (map id_of) split ∙ map-append id_of front (c ∷ back) in
      let among : Contains (map id_of front ++ c.id ∷ []) f.id = subst (λ (l : List (List ℕ)). Contains l f.id) (map-append id_of front (c ∷ [])) (in_map id_of (front ++ c ∷ []) f earlier) in
      not_again (map id_of front) (map id_of back) front2 back2 c.id f.id (subst (λ (l : List (List ℕ)). HasNoRepeat l) by_ids once) (sym by_ids ∙ split2) after among)

  abbrev AreSound : List Node → Type 0
  AreSound l = AreApart bytes_eq l × AreReadChildFirst bytes_eq l

  pushed : (front : List ReadCommit) (c : ReadCommit) → log_nodes (front ++ c ∷ []) ≡ log_node c ∷ log_nodes front
  pushed front c = ap reverse (map-append log_node front (c ∷ [])) ∙ reverse-append (map log_node front) (log_node c ∷ [])

  are_sound : (front back : List ReadCommit) → read ≡ front ++ back → AreSound (log_nodes front) → AreSound (log_nodes read)
  are_sound front [] split k = subst (λ (l : List ReadCommit). AreSound (log_nodes l)) (sym (split ∙ append-nil front)) k
  are_sound front (c ∷ back) split k =
      let by_ids : map id_of read ≡ map id_of front ++ c.id ∷ map id_of back = ap (map id_of) split ∙ map-append id_of front (c ∷ back) in
      let new : has_node bytes_eq (log_nodes front) c.id ≡ false = false_from (has_node bytes_eq (log_nodes front) c.id) (λ has.
      let earlier = has_id (reverse front) c.id (subst (λ (l : List Node). has_node bytes_eq l c.id ≡ true) (newest_of front) has) in
      not_before (map id_of front) (map id_of back) c.id (subst (λ (l : List (List ℕ)). HasNoRepeat l) by_ids once)
      (unturned (map id_of front) c.id (subst (λ (l : List (List ℕ)). Contains l c.id) (map_turned id_of front) earlier))) in
      let childless : (f : Node) → Contains (log_node c ∷ log_nodes front) f → list_any (leads_to bytes_eq f.id) (direct_edges c.commit.parents) ≡ false = λ f inside.
      let at = back_in_map log_node (front ++ c ∷ []) f (unturned (map log_node (front ++ c ∷ [])) f (subst (λ (l : List Node). Contains l f) (sym (pushed front c)) inside)) in
      subst (λ (e : Node). list_any (leads_to bytes_eq e.id) (direct_edges c.commit.parents) ≡ false) at.2 (no_edge front back c at.0 split at.1) in
      let sound : AreSound (log_node c ∷ log_nodes front) = ((new, k.0), (childless, k.1)) in
      are_sound (front ++ c ∷ []) back (split ∙ sym (append_assoc front (c ∷ []) back)) (subst (λ (l : List Node). AreSound l) (sym (pushed front c)) sound)

  pub are_whole : IsWhole bytes_eq (log_nodes read)
  are_whole =
      let sound = are_sound [] read refl (tt, tt) in
      record {
        apart = sound.0;
        child_first = sound.1;
        closed = λ e i inside leads.
            let at = back_in_map log_node read e (unturned (map log_node read) e inside) in
            let among = parent_read at.0 i at.1 (leads_in at.0.commit.parents i (subst (λ (f : Node). list_any (leads_to bytes_eq i) f.edges ≡ true) (sym at.2) leads)) in
            subst (λ (l : List Node). has_node bytes_eq l i ≡ true) (sym (newest_of read))
            (id_has (reverse read) i (subst (λ (l : List (List ℕ)). Contains l i) (sym (map_turned id_of read)) (in_reverse (map id_of read) i among)));
      }

  -- ---- a grouped order of them is a topological order

  abbrev AreGroupedHere : List ReadCommit → Type 0
  AreGroupedHere newest = AreGrouped bytes_eq (log_nodes read) (nodes newest)

  was_read : (c : ReadCommit) → Contains (log_nodes read) (log_node c) → Contains read c
  was_read c inside =
      let at = back_in_map log_node read (log_node c) (unturned (map log_node read) (log_node c) inside) in
      subst (λ (d : ReadCommit). Contains read d) (ap (λ (e : Node). e.node) at.2) at.1

  all_read : (newest : List ReadCommit) → AreGroupedHere newest → (c : ReadCommit) → Contains newest c → Contains read c
  all_read [] k c h = nothing h
  all_read (d ∷ newest) k c h = ⊎_elim (λ here. subst (λ (x : ReadCommit). Contains read x) here (was_read d k.0.node)) (λ there. all_read newest k.1 c there) (first_or_rest d newest c h)

  grouped_once : (newest : List ReadCommit) → AreGroupedHere newest → HasNoRepeat (map id_of newest)
  grouped_once [] k = tt
  grouped_once (c ∷ newest) k = (λ again. true≢false (sym (id_has newest c.id again) ∙ k.0.new), grouped_once newest k.1)

  grouped_rest : (newer older : List ReadCommit) → AreGroupedHere (newer ++ older) → AreGroupedHere older
  grouped_rest [] older k = k
  grouped_rest (c ∷ newer) older k = grouped_rest newer older k.1

  -- a commit with an edge to another one is older
  child_older : (older : List ReadCommit) (a b : ReadCommit) → MayFollow bytes_eq (log_nodes read) (nodes older) (log_node b) → Contains read a → Contains a.commit.parents b.id → Contains (map id_of older) a.id
  child_older older a b may here inside =
      let ready : (not (list_any (leads_to bytes_eq b.id) (direct_edges a.commit.parents)) || has_node bytes_eq (nodes older) a.id) ≡ true =
      all_at (λ (e : Node). not (list_any (leads_to bytes_eq b.id) e.edges) || has_node bytes_eq (nodes older) e.id) (log_nodes read) (log_node a) may.ready (in_reverse (map log_node read) (log_node a) (in_map log_node read a here)) in
      let leads = leads_out a.commit.parents b.id inside in
      has_id older a.id (⊎_elim (λ never. absurd (true≢false (sym never ∙ ap not leads))) (λ has. has) (or_cases (not (list_any (leads_to bytes_eq b.id) (direct_edges a.commit.parents))) (has_node bytes_eq (nodes older) a.id) ready))

  read_of : (i : List ℕ) → Contains (map id_of read) i → (c : ReadCommit) × Contains read c × (c.id ≡ i)
  read_of i h = back_in_map id_of read i h

  ancestor_older : (steps : ℕ) (newer older : List ReadCommit) (a : ReadCommit) (b : ReadCommit) → AreGroupedHere (newer ++ b ∷ older) → Contains read a → NodePath parents a.id b.id (suc steps) → Contains (map id_of older) a.id
  ancestor_older zero newer older a b k here (i, inside, same) =
      let k2 = grouped_rest newer (b ∷ older) k in
      child_older older a b k2.0 here (subst (λ z. Contains a.commit.parents z) same (subst (λ (l : List (List ℕ)). Contains l i) (its_parents a here) inside))
  ancestor_older (suc steps) newer older a b k here (i, inside, more) =
      let own : Contains a.commit.parents i = subst (λ (l : List (List ℕ)). Contains l i) (its_parents a here) inside in
      let c = read_of i (parent_read a i here own) in
      let path : NodePath parents c.0.id b.id (suc steps) = subst (λ z. NodePath parents z b.id (suc steps)) (sym c.2) more in
      let at = back_in_map id_of older c.0.id (ancestor_older steps newer older c.0 b k c.1 path) in
      let spot = split_at older at.0 at.1 in
      let k2 = (grouped_rest newer (b ∷ older) k).1 in
      let k3 = grouped_rest spot.0 (at.0 ∷ spot.1) (subst (λ (l : List ReadCommit). AreGroupedHere l) spot.2 k2) in
      let found = child_older spot.1 a at.0 k3.0 here (subst (λ z. Contains a.commit.parents z) (sym (at.2 ∙ c.2)) own) in
      subst (λ (l : List ReadCommit). Contains (map id_of l) a.id) (sym spot.2)
      (subst (λ (l : List (List ℕ)). Contains l a.id) (sym (map-append id_of spot.0 (at.0 ∷ spot.1))) (Contains-append_right (map id_of spot.0) (at.0.id ∷ map id_of spot.1) a.id (in_rest at.0.id (map id_of spot.1) a.id found)))

  module _ (order : List ReadCommit) (grouped : IsGroupedOrder bytes_eq (log_nodes read) None (log_nodes order)) where
    newest_grouped : AreGroupedHere (reverse order)
    newest_grouped = subst (λ (l : List Node). AreGrouped bytes_eq (log_nodes read) l) (newest_of order) grouped.grouped

    in_read : (c : ReadCommit) → Contains order c → Contains read c
    in_read c h = all_read (reverse order) newest_grouped c (in_reverse order c h)

    in_order : (c : ReadCommit) → Contains read c → Contains order c
    in_order c h =
        let at = back_in_map log_node order (log_node c) (unturned (map log_node order) (log_node c) (grouped.all (log_node c) (in_reverse (map log_node read) (log_node c) (in_map log_node read c h)))) in
        subst (λ (d : ReadCommit). Contains order d) (ap (λ (e : Node). e.node) at.2) at.1

    ids_there : (i : List ℕ) → Contains (map id_of order) i → Contains (map id_of read) i
    ids_there i h = let at = back_in_map id_of order i h in subst (λ z. Contains (map id_of read) z) at.2 (in_map id_of read at.0 (in_read at.0 at.1))

    ids_back : (i : List ℕ) → Contains (map id_of read) i → Contains (map id_of order) i
    ids_back i h = let at = back_in_map id_of read i h in subst (λ z. Contains (map id_of order) z) at.2 (in_map id_of order at.0 (in_order at.0 at.1))

    ids_turned : reverse (map id_of (reverse order)) ≡ map id_of order
    ids_turned = ap reverse (map_turned id_of order) ∙ reverse-reverse (map id_of order)

    before : (a b : List ℕ) → Contains (map id_of order) a → StrictlyReachesNode parents a b → IsNodeBefore (map id_of order) a b
    before a b inside (steps, path) =
        let from = read_of a (ids_there a inside) in
        let reached : Contains (map id_of order) b =
        ids_back b ((child_first.all b).1 (reaches_path (suc steps) a b ((child_first.all a).0 (ids_there a inside)) path)) in
        let to = back_in_map id_of order b reached in
        let spot = split_at (reverse order) to.0 (in_reverse order to.0 to.1) in
        let older = ancestor_older steps spot.0 spot.1 from.0 to.0 (subst (λ (l : List ReadCommit). AreGroupedHere l) spot.2 newest_grouped) from.1
        (subst (λ z. NodePath parents from.0.id z (suc steps)) (sym to.2) (subst (λ z. NodePath parents z b (suc steps)) (sym from.2) path)) in
        let found : IsNodeBefore (reverse (map id_of spot.0 ++ to.0.id ∷ map id_of spot.1)) from.0.id to.0.id = before_turned (map id_of spot.0) (map id_of spot.1) from.0.id to.0.id older in
        let whole : reverse (map id_of spot.0 ++ to.0.id ∷ map id_of spot.1) ≡ map id_of order =
        ap reverse (sym (map-append id_of spot.0 (to.0 ∷ spot.1)) ∙ ap (map id_of) (sym spot.2)) ∙ ids_turned in
        subst (λ z. IsNodeBefore (map id_of order) a z) to.2 (subst (λ z. IsNodeBefore (map id_of order) z to.0.id) from.2 (subst (λ (l : List (List ℕ)). IsNodeBefore l from.0.id to.0.id) whole found))
      where
        reaches_path : (n : ℕ) (x y : List ℕ) → ReachesNode parents ids x → NodePath parents x y n → ReachesNode parents ids y
        reaches_path zero x y reached same = subst (ReachesNode parents ids) same reached
        reaches_path (suc n) x y reached (z, within, rest) = reaches_path n z y (reaches_more parents ids x z reached within) rest

    pub grouped_child_first : IsChildFirstOrder parents ids (map id_of order)
    grouped_child_first = record {
      all = λ a. (λ h. (child_first.all a).0 (ids_there a h), λ r. ids_back a ((child_first.all a).1 r));
      once = subst (AllPairs (λ a b. a ≢ b)) ids_turned (once_turned (map id_of (reverse order)) (grouped_once (reverse order) newest_grouped));
      before = before;
    }

    pub grouped_stored : All (IsStored store) order
    grouped_stored k c less =
        let (found, within, at) = in_read (get_or order k c) (Contains-get_or order k c less) in
        subst (IsStored store) at (stored found (get_or order k c) within)

-- ---- the order is grouped as its own nodes are

pub given_read : (nodes given : List Node) → AreGrouped bytes_eq nodes given → (e : Node) → Contains given e → Contains nodes e
given_read nodes [] k e h = nothing h
given_read nodes (f ∷ given) k e h = ⊎_elim (λ here. subst (λ (x : Node). Contains nodes x) here k.0.node) (λ there. given_read nodes given k.1 e there) (first_or_rest f given e h)

module _ (read order : List ReadCommit) (grouped : IsGroupedOrder bytes_eq (log_nodes read) None (log_nodes order)) where
  same_ready : (given : List Node) (i : List ℕ) → is_ready bytes_eq (log_nodes read) given i ≡ is_ready bytes_eq (log_nodes order) given i
  same_ready given i = same_all (λ (e : Node). not (list_any (leads_to bytes_eq i) e.edges) || has_node bytes_eq given e.id) (log_nodes read) (log_nodes order) grouped.all (given_read (log_nodes read) (log_nodes order) grouped.grouped)

  regrouped : (given : List Node) → AreGrouped bytes_eq (log_nodes read) given → ((e : Node) → Contains given e → Contains (log_nodes order) e) → AreGrouped bytes_eq (log_nodes order) given
  regrouped [] k within = tt
  regrouped (e ∷ given) k within =
      let same : is_ready bytes_eq (log_nodes read) given ≡ is_ready bytes_eq (log_nodes order) given = λ j i. same_ready given i j in
      let first : MayFollow bytes_eq (log_nodes order) given e = record {
        node = within e (at_first e given);
        new = k.0.new;
        ready = sym (same_ready given e.id) ∙ k.0.ready;
        follows = subst (λ (p : List ℕ → Bool). MatchOption (find p (reverse (targets_of (newest_edges given)))) ⊤ (λ i. bytes_eq i e.id ≡ true)) same k.0.follows;
      } in
      (first, regrouped given k.1 (λ f h. within f (in_rest e given f h)))

  pub own_groups : IsGroupedOrder bytes_eq (log_nodes order) None (log_nodes order)
  own_groups = record {
    all = λ e h. h;
    grouped = regrouped (log_nodes order) grouped.grouped (λ e h. h);
    first = λ e i oldest never. absurd cc;
  }

-- ---- the history

-- the parents that the store has, none of a commit that it lacks
abbrev known_parents : Option CommitValue → List (List ℕ)
known_parents None = []
known_parents (Some c) = c.parents

module _ (store : Objects) (ids : List (List ℕ)) (read : List ReadCommit) (history : IsHistoryOrder store ids read) where
  abbrev some_parents : Parents
  some_parents id = known_parents (store.commits id)

  some_complete : Completes store some_parents
  some_complete id commit is = ap known_parents is

  pub history_whole : IsWhole bytes_eq (log_nodes read)
  history_whole = let h = history some_parents some_complete in are_whole store some_parents some_complete ids read h.1 h.2

  pub grouped_history_of : (order : List ReadCommit) → IsGroupedOrder bytes_eq (log_nodes read) None (log_nodes order) → IsGroupedHistory store ids order
  grouped_history_of order grouped = (
    λ parents complete. let h = history parents complete in (h.0, grouped_child_first store parents complete ids read h.1 h.2 order grouped, grouped_stored store parents complete ids read h.1 h.2 order grouped),
    own_groups read order grouped,
  )

-- ---- the entries of a run

module _ {F : Type 0} (returns : Shared F (Bor ReadCommit × Unit {0}) (Bor (List ℕ))) (as_id : F) (says : (x : ReadCommit) (i : Bor (List ℕ)) → FnReturnsAt returns as_id x i → i.now ≡ x.id) where
  pub entries_are : (commits : List ReadCommit) (items : List (Item ReadCommit (List ℕ))) (entries : List Node) → map listed_item items ≡ map (λ c. (c, direct_edges c.commit.parents)) commits
      → AllZip (IsEntryOf returns bytes_eq as_id) items entries → entries ≡ map log_node commits
  entries_are [] [] [] same k = refl
  entries_are [] [] (e ∷ entries) same k = absurd k
  entries_are [] (x ∷ items) entries same k = absurd cc
  entries_are (c ∷ commits) [] entries same k = absurd cc
  entries_are (c ∷ commits) (x ∷ items) [] same k = absurd k
  entries_are (c ∷ commits) (x ∷ items) (e ∷ entries) same (one, rest) =
      let first : listed_item x ≡ (c, direct_edges c.commit.parents) = cc in
      let others : map listed_item items ≡ map (λ d. (d, direct_edges d.commit.parents)) commits = cc in
      let node : e.node ≡ c = ap (λ p. p.0) one.same ∙ ap (λ p. p.0) first in
      let edges : e.edges ≡ direct_edges c.commit.parents = ap (λ p. p.1) one.same ∙ ap (λ p. p.1) first in
      let id : e.id ≡ c.id = sym (same_id one.id.0.now e.id one.id.2) ∙ says x.0 one.id.0 one.id.1 ∙ ap (λ p. p.0.id) first in
      let more = entries_are commits items entries others rest in
      λ i. record { id = id i; node = node i; edges = edges i } ∷ more i

pub order_is : (order : List Node) (yielded : List (Item ReadCommit (List ℕ))) → AllZip (λ e x. item_of e ≡ listed_item x) order yielded → ((e : Node) → Contains order e → e ≡ log_node e.node) → order ≡ map log_node (map (λ x. x.0) yielded)
order_is [] [] k are = refl
order_is [] (x ∷ yielded) k are = absurd k
order_is (e ∷ order) [] k are = absurd k
order_is (e ∷ order) (x ∷ yielded) (one, rest) are =
    let first : e ≡ log_node x.0 = are e (at_first e order) ∙ ap (λ p. log_node p.0) one in
    let more = order_is order yielded rest (λ f h. are f (in_rest e order f h)) in
    λ i. first i ∷ more i

pub own_node : (commits : List ReadCommit) (e : Node) → Contains (log_nodes commits) e → e ≡ log_node e.node
own_node commits e h =
    let at = back_in_map log_node commits e (unturned (map log_node commits) e h) in
    sym at.2 ∙ ap (λ (f : Node). log_node f.node) at.2

-- a run that yields these commits grouped them
pub group_of_run : (commits order : List ReadCommit) (listed : List Node) (yielded : List (Item ReadCommit (List ℕ))) → map (λ x. x.0) yielded ≡ order → AllZip (λ e x. item_of e ≡ listed_item x) listed yielded
    → IsGroupedOrder bytes_eq (log_nodes commits) None (reverse listed) → IsGroupedOrder bytes_eq (log_nodes commits) None (log_nodes order)
group_of_run commits order listed yielded found zipped grouped =
    let are = order_is listed yielded zipped (λ e h. own_node commits e (given_read (log_nodes commits) (reverse listed) grouped.grouped e (in_reverse listed e h))) in
    subst (λ (l : List Node). IsGroupedOrder bytes_eq (log_nodes commits) None (reverse l)) (are ∙ ap (map log_node) found) grouped

-- one more item of the input
pub items_push : (commits : List ReadCommit) (items new : List (Result (Item ReadCommit (List ℕ)) HistoryError)) (c : ReadCommit) (edges : Vec (GraphEdge (List ℕ)) Global) → new ≡ items ++ Ok (c, edges) ∷ [] → edges.items ≡ direct_edges c.commit.parents
    → AreLogItems commits items → AreLogItems (commits ++ c ∷ []) new
items_push commits items new c edges pushed are (nodes, is, same) = (
  nodes ++ (c, edges) ∷ [],
  pushed ∙ ap (λ l. l ++ Ok (c, edges) ∷ []) is ∙ sym (map-append (λ x. Ok x) nodes ((c, edges) ∷ [])),
  map-append listed_item nodes ((c, edges) ∷ []) ∙ ap (λ l. l ++ (c, edges.items) ∷ []) same ∙ ap (λ y. map (λ d. (d, direct_edges d.commit.parents)) commits ++ (c, y) ∷ []) are
      ∙ sym (map-append (λ d. (d, direct_edges d.commit.parents)) commits (c ∷ [])),
)

-- ---- the nodes that a grouped graph of the commits yields

module _ {S F : Type 0} {returns : Shared F (Bor ReadCommit × Unit {0}) (Bor (List ℕ))} {steps : S → Option (Result (Item ReadCommit (List ℕ)) HistoryError) → S → Type 0} {as_id : F} {input : S} {s : GroupedNodes ReadCommit (List ℕ) S F}
    (says : (x : ReadCommit) (i : Bor (List ℕ)) → FnReturnsAt returns as_id x i → i.now ≡ x.id) (unread : IsUnread returns bytes_eq steps as_id input [] s) where
  pub grouped_of : (commits : List ReadCommit) (items : List (Result (Item ReadCommit (List ℕ)) HistoryError)) → AreLogItems commits items → ((xs : List (Result (Item ReadCommit (List ℕ)) HistoryError)) → Drains steps input xs → xs ≡ items)
      → IsWhole bytes_eq (log_nodes commits) → (order : List ReadCommit) → YieldsLogNodes returns bytes_eq steps s order → IsGroupedOrder bytes_eq (log_nodes commits) None (log_nodes order)
  grouped_of commits items are drained whole order (yielded, found, drains) =
      let run = yields-grouped-orders returns bytes_eq steps nat_list_eq_equiv as_id input [] s yielded unread drains in
      let same = ok_same HistoryError run.nodes are.0 (drained (map (λ x. Ok x) run.nodes) run.read ∙ are.1) in
      let entries = entries_are returns as_id says commits run.nodes run.entries (ap (map listed_item) same ∙ are.2) run.have_ids in
      let grouped : IsWhole bytes_eq (log_nodes commits) → IsGroupedOrder bytes_eq (log_nodes commits) None (reverse run.order) =
      subst (λ (l : List Node). IsWhole bytes_eq (reverse l) → IsGroupedOrder bytes_eq (reverse l) None (reverse run.order)) entries run.grouped in
      group_of_run commits order run.order yielded found run.listed (grouped whole)
