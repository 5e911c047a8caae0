-- The visible commits of a topological order, with their edges, are a log.
use Rattle.std.proofs.Common.{◌≡◌, ◌∙◌, ℕ, Bool, true, false, true≢false, cond, List, [], ◌∷◌, ◌++◌, Ok, refl, sym, ap, subst, eqb, ⊎_elim, append-nil}
use Rattle.std.specs.List.{Contains, IsDistinct, filter}
use Rattle.std.proofs.lemmas.List.{map-append}
use Rattle.std.proofs.lemmas.List.Elements.{Contains-push_cases, filter-append}
use Rattle.jj_dag.specs.Graph.{Precedes}
use Rattle.jj_walks.specs.PendingNodes.{listed_item}
use Rattle.jj_walks.proofs.Expanding.{at_first, first_or_rest, in_rest}
use Rattle.jj_log.specs.Edges.{AreEdges}
use Rattle.jj_log.specs.LogItems.{AddsVisible, AreVisibleItems, LogItem}
use Rattle.jj_log.specs.Logs.{IsLog, LogNode}
use Rattle.jj_log.specs.Numbers.{is_visible}
use Rattle.jj_log.specs.Orders.{IsCommitOrder}
use Rattle.jj_log.specs.declared.commits.NumberedCommit.{NumberedCommit}
use Rattle.jj_log.proofs.Lists.{nothing}
use Rattle.jj_log.proofs.NearTargets.{visible_listed}
use Rattle.jj_log.proofs.NodeOrders.{HasNoRepeat, distinct_of, no_repeat}

-- ---- filtered lists

module _ (p : ℕ → Bool) where
  kept_first : (x : ℕ) (xs : List ℕ) → p x ≡ true → filter p (x ∷ xs) ≡ x ∷ filter p xs
  kept_first x xs h = ap (λ b. cond b (x ∷ filter p xs) (filter p xs)) h

  left_first : (x : ℕ) (xs : List ℕ) → p x ≡ false → filter p (x ∷ xs) ≡ filter p xs
  left_first x xs h = ap (λ b. cond b (x ∷ filter p xs) (filter p xs)) h

  in_filter : (xs : List ℕ) (y : ℕ) → Contains xs y → p y ≡ true → Contains (filter p xs) y
  in_filter [] y h k = nothing h
  in_filter (x ∷ xs) y h k = by_case (p x) refl (λ rest. in_filter xs y rest k)
    where
      by_case : (b : Bool) → p x ≡ b → (Contains xs y → Contains (filter p xs) y) → Contains (filter p (x ∷ xs)) y
      by_case true e more = subst (λ (l : List ℕ). Contains l y) (sym (kept_first x xs e)) (⊎_elim (λ same. subst (λ z. Contains (x ∷ filter p xs) z) same (at_first x (filter p xs))) (λ rest. in_rest x (filter p xs) y (more rest)) (first_or_rest x xs y h))
      by_case false e more = subst (λ (l : List ℕ). Contains l y) (sym (left_first x xs e)) (⊎_elim (λ same. absurd (true≢false (sym k ∙ ap p (sym same) ∙ e))) more (first_or_rest x xs y h))

  from_filter : (xs : List ℕ) (y : ℕ) → Contains (filter p xs) y → Contains xs y × (p y ≡ true)
  from_filter [] y h = nothing h
  from_filter (x ∷ xs) y h = by_case (p x) refl (λ rest. from_filter xs y rest)
    where
      by_case : (b : Bool) → p x ≡ b → (Contains (filter p xs) y → Contains xs y × (p y ≡ true)) → Contains (x ∷ xs) y × (p y ≡ true)
      by_case true e more = ⊎_elim (λ same. (subst (λ z. Contains (x ∷ xs) z) same (at_first x xs), subst (λ z. p z ≡ true) same e)) (λ rest. let r = more rest in (in_rest x xs y r.0, r.1)) (first_or_rest x (filter p xs) y (subst (λ (l : List ℕ). Contains l y) (kept_first x xs e) h))
      by_case false e more = let r = more (subst (λ (l : List ℕ). Contains l y) (left_first x xs e) h) in (in_rest x xs y r.0, r.1)

  precedes_filter : (xs : List ℕ) (a b : ℕ) → Precedes xs a b → p a ≡ true → p b ≡ true → Precedes (filter p xs) a b
  precedes_filter xs a b (front, back, same, after) first second = (
    filter p front,
    filter p back,
    ap (filter p) same ∙ filter-append p front (a ∷ back) ∙ ap (λ l. filter p front ++ l) (kept_first a back first),
    in_filter back b after second,
  )

  once_filter : (xs : List ℕ) → HasNoRepeat xs → HasNoRepeat (filter p xs)
  once_filter [] once = tt
  once_filter (x ∷ xs) once = by_case (p x) refl (once_filter xs once.1)
    where
      by_case : (b : Bool) → p x ≡ b → HasNoRepeat (filter p xs) → HasNoRepeat (filter p (x ∷ xs))
      by_case true e more =
          let whole : HasNoRepeat (x ∷ filter p xs) = ((λ at. once.0 (from_filter xs x at).0), more) in
          subst (λ (l : List ℕ). HasNoRepeat l) (sym (kept_first x xs e)) whole
      by_case false e more = subst (λ (l : List ℕ). HasNoRepeat l) (sym (left_first x xs e)) more

  distinct_filter : (xs : List ℕ) → IsDistinct eqb xs → IsDistinct eqb (filter p xs)
  distinct_filter xs once = distinct_of (filter p xs) (once_filter xs (no_repeat xs once))

-- ---- items

pub no_items : (commits : List NumberedCommit) (items : List LogItem) → items ≡ [] → AreVisibleItems commits [] items
no_items commits items same = record {
  nodes = [];
  are = record { found = []; none_fails = same; same = refl };
  visible = refl;
  edges = λ x h. nothing h;
}

pub more_items : (commits : List NumberedCommit) (numbers before : List ℕ) (n : ℕ) (old new : List LogItem) → numbers ≡ before ++ n ∷ [] → AreVisibleItems commits before old → AddsVisible commits n old new → AreVisibleItems commits numbers new
more_items commits numbers before n old new same k adds = subst (λ (l : List ℕ). AreVisibleItems commits l new) (sym same) (by_case (is_visible commits n) refl)
  where
    by_case : (b : Bool) → is_visible commits n ≡ b → AreVisibleItems commits (before ++ n ∷ []) new
    by_case true e =
        let (edges, pushed, are) = adds.visible e in
        record {
          nodes = k.nodes ++ (n, edges.items) ∷ [];
          are = record {
            found = k.are.found ++ (n, edges) ∷ [];
            none_fails = pushed ∙ ap (λ l. l ++ Ok (n, edges) ∷ []) k.are.none_fails ∙ sym (map-append (λ x. Ok x) k.are.found ((n, edges) ∷ []));
            same = map-append listed_item k.are.found ((n, edges) ∷ []) ∙ ap (λ l. l ++ (n, edges.items) ∷ []) k.are.same;
          };
          visible = map-append (λ node. node.0) k.nodes ((n, edges.items) ∷ []) ∙ ap (λ l. l ++ n ∷ []) k.visible ∙ sym (filter-append (is_visible commits) before (n ∷ []) ∙ ap (λ l. filter (is_visible commits) before ++ l) (kept_first (is_visible commits) n [] e));
          edges = λ x h. ⊎_elim (k.edges x) (λ last. subst (λ (y : LogNode). AreEdges commits y.0 y.1) last are) (Contains-push_cases k.nodes (n, edges.items) x h);
        }
    by_case false e = record {
      nodes = k.nodes;
      are = record { found = k.are.found; none_fails = adds.hidden e ∙ k.are.none_fails; same = k.are.same };
      visible = k.visible ∙ sym (append-nil (filter (is_visible commits) before)) ∙ sym (filter-append (is_visible commits) before (n ∷ []) ∙ ap (λ l. filter (is_visible commits) before ++ l) (left_first (is_visible commits) n [] e));
      edges = k.edges;
    }

pub visible_log : (commits : List NumberedCommit) (order : List ℕ) (items : List LogItem) → IsCommitOrder commits order → (k : AreVisibleItems commits order items) → IsLog commits k.nodes
visible_log commits order items sorted k = record {
  all = λ n. (
    (λ h. (from_filter (is_visible commits) order n (subst (λ (l : List ℕ). Contains l n) k.visible h)).1),
    (λ h. subst (λ (l : List ℕ). Contains l n) (sym k.visible) (in_filter (is_visible commits) order n (sorted.all n (visible_listed commits n h)) h)),
  );
  once = subst (IsDistinct eqb) (sym k.visible) (distinct_filter (is_visible commits) order sorted.once);
  edges = k.edges;
  before = λ a b first second path. subst (λ (l : List ℕ). Precedes l a b) (sym k.visible) (precedes_filter (is_visible commits) order a b (sorted.before a b (sorted.all a (visible_listed commits a first)) path) first second);
}
