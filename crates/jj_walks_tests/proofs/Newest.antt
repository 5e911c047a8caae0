-- The commits of a list numbered by rank, so that the greatest topological order has the newest
-- first.
use Rattle.std.proofs.Common.{◌≡◌, ◌≢◌, ◌<◌, ◌==◌, ℕ, suc, Bool, true, false, cond, Option, None, Some, is_some, List, [], ◌∷◌, length, map, refl, sym, ◌∙◌, ap, subst, true≢false, inl, inr, ◌⊎◌}
use Rattle.std.specs.List.{Contains}
use Rattle.std.specs.Cmp.Lexicographic.{slice_cmp}
use Rattle.std.specs.String.{string_bytes}
use Rattle.std.specs.declared.cmp.Ordering.TheVariants.{Equal}
use Rattle.std.specs.Ordering.{nat_cmp, ordering_then}
use Rattle.std.proofs.lemmas.Bool.Decides.{Decides-eqb}
use Rattle.std.proofs.lemmas.Cmp.{nat_list_cmp_total, tied_itself}
use denote.Ref.{Bor}
use Rattle.jj_dag.specs.Graph.{ReachedFrom, IsTopologicalOrder, IsGreatestTopologicalOrder}
use Rattle.jj_dag.specs.Walk.{GraphModel, AreNodes}
use Rattle.jj_dag.proofs.Collecting.{are_nodes}
use Rattle.jj_dag.proofs.GreatestOrder.{map_twice}
use Rattle.jj_dag.proofs.Relabelled.{Contains-map}
use Rattle.jj_dag.proofs.ReadyOrders.{at_split, here, later}
use Rattle.jj_dag.proofs.Renumbered.{renumbered, number_is, is_node_of, numbers_are, greater_there}
use Rattle.jj_walks_tests.specs.declared.commits.Commit.{Commit}
use Rattle.jj_walks_tests.specs.Commits.{ids_of, commit_with, parent_graph}
use Rattle.jj_walks_tests.specs.Newest.{IsNewer, IsNewestFirst}
use Rattle.jj_walks_tests.proofs.Numbering.{walk_of, walk_closed, node, node_has, node_id, has_found, found_id, ids_are}
use Rattle.jj_walks_tests.proofs.Ranks.{IsBefore, rank, rank_below, rank_tells, rank_compares, number_ranked, ranked_back}

found_in : (cs : List Commit) (n : ℕ) → is_some (commit_with cs n) ≡ true → Contains (ids_of cs) n
found_in [] n h = absurd (true≢false (sym h))
found_in (c ∷ cs) n h =
    let P : Bool → Type 0 = λ b. (c.id == n) ≡ b → is_some (cond b (Some c) (commit_with cs n)) ≡ true → Contains (ids_of (c ∷ cs)) n in
    elim (c.id == n) as P [
      | true ↦ λ e t. subst (λ (m : ℕ). Contains (c.id ∷ ids_of cs) m) ((Decides-eqb c.id n).0 e) (here c.id (ids_of cs))
      | false ↦ λ e t. later c.id (ids_of cs) n (found_in cs n t)
    ] refl h

module _ (commits : List Commit) where
  abbrev time_with : Option Commit → ℕ
  time_with None = 0
  time_with (Some c) = c.time

  -- the time of the commit with this id
  abbrev time_of : ℕ → ℕ
  time_of n = time_with (commit_with commits n)

  abbrev pub to : ℕ → ℕ
  to n = rank time_of (ids_of commits) n

  abbrev pub back : ℕ → ℕ
  back r = number_ranked time_of (ids_of commits) r

  abbrev pub unused : ℕ
  unused = suc (length (ids_of commits))

  pub undo : (n : ℕ) → is_some (commit_with commits n) ≡ true → back (to n) ≡ n
  undo n h = ranked_back time_of (ids_of commits) n (found_in commits n h)

  pub free : (n : ℕ) → is_some (commit_with commits n) ≡ true → to n ≢ unused
  free n h = rank_below time_of (ids_of commits) n

  -- the numbering by rank
  abbrev pub ranked_walk : GraphModel (Bor Commit) (Bor ℕ)
  ranked_walk = renumbered (walk_of commits) to back unused

  -- commits of the list compare as their ranks do
  pub commits_compare : (x y : Bor Commit) → ranked_walk.is_node (ranked_walk.node x) ≡ true → ranked_walk.is_node (ranked_walk.node y) ≡ true
      → ordering_then (nat_cmp x.now.time y.now.time) (ordering_then (nat_cmp x.now.id y.now.id)
      (ordering_then (slice_cmp nat_cmp x.now.parents.items y.now.parents.items) (slice_cmp nat_cmp (string_bytes x.now.text) (string_bytes y.now.text)))) ≡ nat_cmp (ranked_walk.node x) (ranked_walk.node y)
  commits_compare x y is_x is_y =
      let in_x = is_node_of (walk_of commits) to back unused undo free (walk_closed commits) (node commits x) is_x in
      let in_y = is_node_of (walk_of commits) to back unused undo free (walk_closed commits) (node commits y) is_y in
      let at_x = node_id commits x (node_has commits x in_x) in
      let at_y = node_id commits y (node_has commits y in_y) in
      let found_x = has_found commits x.now (node_has commits x in_x) in
      let found_y = has_found commits y.now (node_has commits y in_y) in
      let time_x : time_of x.now.id ≡ x.now.time = ap time_with found_x.1 ∙ found_x.2.1 in
      let time_y : time_of y.now.id ≡ y.now.time = ap time_with found_y.1 ∙ found_y.2.1 in
      let tied : x.now.id ≡ y.now.id → ordering_then (slice_cmp nat_cmp x.now.parents.items y.now.parents.items) (slice_cmp nat_cmp (string_bytes x.now.text) (string_bytes y.now.text)) ≡ Equal =
      λ same.
      let both : Some found_x.0 ≡ Some found_y.0 = sym found_x.1 ∙ ap (commit_with commits) same ∙ found_y.1 in
      let one : found_x.0 ≡ found_y.0 = cc in
      let parents : x.now.parents.items ≡ y.now.parents.items = sym found_x.2.2 ∙ ap (λ d. d.parents.items) one ∙ found_y.2.2 in
      let texts : string_bytes x.now.text ≡ string_bytes y.now.text = sym found_x.2.3 ∙ ap (λ d. string_bytes d.text) one ∙ found_y.2.3 in
      ap (λ l. ordering_then (slice_cmp nat_cmp x.now.parents.items l) (slice_cmp nat_cmp (string_bytes x.now.text) (string_bytes y.now.text))) (sym parents)
      ∙ ap (λ o. ordering_then o (slice_cmp nat_cmp (string_bytes x.now.text) (string_bytes y.now.text))) (tied_itself nat_list_cmp_total x.now.parents.items)
      ∙ ap (λ l. slice_cmp nat_cmp (string_bytes x.now.text) l) (sym texts) ∙ tied_itself nat_list_cmp_total (string_bytes x.now.text) in
      let compared = rank_compares time_of (ids_of commits) x.now.id y.now.id _
      (found_in commits x.now.id (ap is_some found_x.1)) (found_in commits y.now.id (ap is_some found_y.1)) tied in
      let number_x : ranked_walk.node x ≡ to x.now.id = number_is (walk_of commits) to back unused undo free (walk_closed commits) (node commits x) in_x ∙ ap to at_x in
      let number_y : ranked_walk.node y ≡ to y.now.id = number_is (walk_of commits) to back unused undo free (walk_closed commits) (node commits y) in_y ∙ ap to at_y in
      rw (number_x, number_y, ← time_x, ← time_y) compared

  -- some nodes have the ranks of their ids
  pub ranks_are : (xs : List (Bor Commit)) → AreNodes (walk_of commits) (map (node commits) xs) → map ranked_walk.node xs ≡ map to (map (node commits) xs)
  ranks_are xs nodes = sym (map_twice _ (node commits) xs) ∙ numbers_are (walk_of commits) to back unused undo free (walk_closed commits) (map (node commits) xs) nodes

  -- the times of the ids decide which of two commits is older
  older_there : (a b : ℕ) → is_some (commit_with commits a) ≡ true → is_some (commit_with commits b) ≡ true → IsBefore time_of b a → IsNewer commits a b
  older_there a b is_a is_b before = by (commit_with commits a) (commit_with commits b) refl refl is_a is_b before
    where
      by : (o p : Option Commit) → commit_with commits a ≡ o → commit_with commits b ≡ p → is_some o ≡ true → is_some p ≡ true → (time_with p < time_with o) ⊎ ((time_with p ≡ time_with o) × (b < a)) → IsNewer commits a b
      by None p e f is_a is_b h = absurd (true≢false (sym is_a))
      by (Some c) None e f is_a is_b h = absurd (true≢false (sym is_b))
      by (Some c) (Some d) e f is_a is_b (inl h) = (c, d, e, f, inl h)
      by (Some c) (Some d) e f is_a is_b (inr (same, lt)) =
          let at_a = found_id commits a c e in
          let at_b = found_id commits b d f in
          let less : d.id < c.id = rw (at_a, at_b) lt in
          (c, d, e, f, inr (same, less))

  -- an order that is the greatest by rank has the newest first
  pub newest_ids : (starts : List ℕ) → AreNodes (walk_of commits) starts → (xs : List (Bor Commit)) → IsTopologicalOrder (parent_graph commits) starts (map (node commits) xs)
      → IsGreatestTopologicalOrder ranked_walk.graph (map to starts) (map ranked_walk.node xs) → IsNewestFirst commits starts (map (λ x. x.now.id) xs)
  newest_ids starts nodes xs order best =
      let had : (a : ℕ) → ReachedFrom (parent_graph commits) starts a → is_some (commit_with commits a) ≡ true = are_nodes {E = ℕ} (walk_of commits) (λ n. []) starts (walk_closed commits) nodes in
      let numbers : AreNodes (walk_of commits) (map (node commits) xs) = λ a h. had a ((order.all a).0 h) in
      let same : map (node commits) xs ≡ map (λ x. x.now.id) xs = ids_are commits xs (λ x h. node_has commits x (numbers (node commits x) (Contains-map (node commits) xs x h))) in
      let ids : IsTopologicalOrder (parent_graph commits) starts (map (λ x. x.now.id) xs) = subst (λ l. IsTopologicalOrder (parent_graph commits) starts l) same order in
      let greatest : IsGreatestTopologicalOrder ranked_walk.graph (map to starts) (map to (map (λ x. x.now.id) xs)) =
      subst (λ l. IsGreatestTopologicalOrder ranked_walk.graph (map to starts) l) (ranks_are xs numbers ∙ ap (map to) same) best in
      record {
        child_first = ids;
        newest = λ other o front lows others a b e f ne.
            let is_a = had a ((ids.all a).0 (subst (λ l. Contains l a) (sym e) (at_split front a lows))) in
            let is_b = had b ((o.all b).0 (subst (λ l. Contains l b) (sym f) (at_split front b others))) in
            let less = greater_there (walk_of commits) to back unused undo free (walk_closed commits) starts (map (λ x. x.now.id) xs) other front lows others a b nodes greatest ids o e f ne in
            older_there a b is_a is_b (rank_tells time_of (ids_of commits) b a (found_in commits b is_b) (found_in commits a is_a) less);
      }
