-- Targets of edges, and the first element that passes a test.
use Rattle.std.proofs.Common.{◌≡◌, ◌∙◌, ℕ, Bool, true, false, true≢false, cond, ◌&&◌, Some, List, [], ◌∷◌, ◌++◌, map, reverse, refl, sym, ap, subst, eqb, ⊎_elim, append_assoc}
use Rattle.std.specs.List.{Contains, filter, find, list_all, list_any}
use Rattle.std.proofs.lemmas.Bool.{or_cases, or_left, or_right}
use Rattle.std.proofs.lemmas.Bool.Decides.{Decides-eqb}
use Rattle.std.proofs.lemmas.List.{reverse-append}
use Rattle.jj_walks.specs.declared.graph.GraphEdge.{GraphEdge}
use Rattle.jj_walks.specs.Grouped.{is_in_graph, leads_to, targets_of}
use Rattle.jj_walks.proofs.Expanding.{at_first, first_or_rest, in_rest}
use Rattle.jj_log.proofs.Lists.{nothing}
use Rattle.jj_log.proofs.NodeOrders.{and_both}

module _ {A : Type 0} (p : A → Bool) where
  pub all_from : (xs : List A) → ((x : A) → Contains xs x → p x ≡ true) → list_all p xs ≡ true
  all_from [] k = refl
  all_from (x ∷ xs) k = ap (λ b. b && list_all p xs) (k x (at_first x xs)) ∙ all_from xs (λ y h. k y (in_rest x xs y h))

  pub find_after : (xs ys : List A) (x : A) → ((y : A) → Contains xs y → p y ≡ false) → p x ≡ true → find p (xs ++ x ∷ ys) ≡ Some x
  find_after [] ys x none h = ap (λ b. cond b (Some x) (find p ys)) h
  find_after (y ∷ xs) ys x none h =
      ap (λ b. cond b (Some y) (find p (xs ++ x ∷ ys))) (none y (at_first y xs)) ∙ find_after xs ys x (λ z k. none z (in_rest y xs z k)) h

  -- the last one, in reverse
  pub find_last : (xs ys : List A) (x : A) → ((y : A) → Contains (reverse ys) y → p y ≡ false) → p x ≡ true → find p (reverse (xs ++ x ∷ ys)) ≡ Some x
  find_last xs ys x none h =
      ap (find p) (reverse-append xs (x ∷ ys) ∙ ap (λ l. l ++ reverse xs) (reverse-append (x ∷ []) ys) ∙ append_assoc (reverse ys) (x ∷ []) (reverse xs)) ∙ find_after (reverse ys) (reverse xs) x none h

pub newest_two : {A : Type 0} (before after : List A) (x y : A) → reverse (before ++ x ∷ y ∷ after) ≡ reverse after ++ y ∷ x ∷ reverse before
newest_two before after x y =
    reverse-append before (x ∷ y ∷ after) ∙ ap (λ l. l ++ reverse before) (reverse-append (x ∷ y ∷ []) after) ∙ append_assoc (reverse after) (y ∷ x ∷ []) (reverse before)

first_target : (x : GraphEdge ℕ) (edges : List (GraphEdge ℕ)) (b : Bool) → is_in_graph x.edge_type ≡ b → targets_of (x ∷ edges) ≡ cond b (x.target ∷ targets_of edges) (targets_of edges)
first_target x edges true e = ap (λ b. map (λ edge. edge.target) (cond b (x ∷ filter (λ edge. is_in_graph edge.edge_type) edges) (filter (λ edge. is_in_graph edge.edge_type) edges))) e
first_target x edges false e = ap (λ b. map (λ edge. edge.target) (cond b (x ∷ filter (λ edge. is_in_graph edge.edge_type) edges) (filter (λ edge. is_in_graph edge.edge_type) edges))) e

pub target_listed : (edges : List (GraphEdge ℕ)) (t : ℕ) → list_any (leads_to eqb t) edges ≡ true → Contains (targets_of edges) t
target_listed [] t h = absurd cc
target_listed (x ∷ edges) t h = by_case (is_in_graph x.edge_type) refl (target_listed edges t)
  where
    by_case : (b : Bool) → is_in_graph x.edge_type ≡ b → (list_any (leads_to eqb t) edges ≡ true → Contains (targets_of edges) t) → Contains (targets_of (x ∷ edges)) t
    by_case true e more =
        subst (λ (l : List ℕ). Contains l t) (sym (first_target x edges true e))
        (⊎_elim (λ here. subst (λ z. Contains (x.target ∷ targets_of edges) z) ((Decides-eqb x.target t).0 (and_both (is_in_graph x.edge_type) (eqb x.target t) here).1) (at_first x.target (targets_of edges)))
        (λ there. in_rest x.target (targets_of edges) t (more there)) (or_cases (leads_to eqb t x) (list_any (leads_to eqb t) edges) h))
    by_case false e more =
        subst (λ (l : List ℕ). Contains l t) (sym (first_target x edges false e))
        (⊎_elim (λ here. absurd (true≢false (sym (and_both (is_in_graph x.edge_type) (eqb x.target t) here).0 ∙ e))) more (or_cases (leads_to eqb t x) (list_any (leads_to eqb t) edges) h))

pub target_led_to : (edges : List (GraphEdge ℕ)) (t : ℕ) → Contains (targets_of edges) t → list_any (leads_to eqb t) edges ≡ true
target_led_to [] t h = nothing h
target_led_to (x ∷ edges) t h = by_case (is_in_graph x.edge_type) refl (target_led_to edges t)
  where
    by_case : (b : Bool) → is_in_graph x.edge_type ≡ b → (Contains (targets_of edges) t → list_any (leads_to eqb t) edges ≡ true) → list_any (leads_to eqb t) (x ∷ edges) ≡ true
    by_case true e more =
        ⊎_elim (λ same. or_left (leads_to eqb t x) (list_any (leads_to eqb t) edges) (ap (λ b. b && eqb x.target t) e ∙ (Decides-eqb x.target t).1 same))
        (λ there. or_right (leads_to eqb t x) (list_any (leads_to eqb t) edges) (more there)) (first_or_rest x.target (targets_of edges) t (subst (λ (l : List ℕ). Contains l t) (first_target x edges true e) h))
    by_case false e more = or_right (leads_to eqb t x) (list_any (leads_to eqb t) edges) (more (subst (λ (l : List ℕ). Contains l t) (first_target x edges false e) h))
