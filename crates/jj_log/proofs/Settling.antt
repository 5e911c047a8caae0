-- Columns of edges.
use Rattle.std.proofs.Common.{◌≡◌, ◌≢◌, ◌↔◌, ◌⊎◌, inl, inr, ◌∙◌, ℕ, zero, suc, ◌<◌, ◌==◌, Bool, true, false, true≢false, cond, Option, None, Some, MatchOption, List, [], ◌∷◌, ◌++◌, length, get_or, take, drop, map, refl, sym, ap, subst, arith, eqb, ⊎_elim}
use Rattle.std.specs.Prelude.{IsTrue}
use Rattle.std.specs.List.{Contains, IsDistinct, filter, list_any, remove}
use Rattle.std.proofs.lemmas.Bool.Decides.{Decides-eqb}
use Rattle.std.proofs.lemmas.Cmp.{nat_eq_equiv}
use Rattle.std.proofs.lemmas.List.{take-append-drop}
use Rattle.std.proofs.lemmas.List.Elements.{Contains-append_left, Contains-append_right, Contains-append_cases, Contains-get_or}
use Rattle.std.proofs.lemmas.Map.Keys.{IsDistinct-push}
use Rattle.jj_walks.specs.declared.graph.GraphEdge.{GraphEdge}
use Rattle.jj_walks.specs.declared.graph.GraphEdgeType.{GraphEdgeType}
use Rattle.jj_walks.specs.declared.graph.GraphEdgeType.TheVariants.{Missing, Direct, Indirect}
use Rattle.jj_walks.specs.Grouped.{is_in_graph, targets_of}
use Rattle.jj_walks.proofs.Expanding.{at_first, first_or_rest, in_rest}
use Rattle.jj_log.specs.Columns.{AreRows, IsRow, NeedsColumn, Settles, SettlesAll, opened}
use Rattle.jj_log.specs.declared.layout.Row.{Row}
use Rattle.jj_log.proofs.Lists.{any_at, any_from, false_from, none_from, nothing}
use Rattle.jj_log.proofs.NodeOrders.{HasNoRepeat, distinct_of, no_repeat}

-- ---- lists without repetition

joined : (xs ys : List ℕ) → HasNoRepeat xs → HasNoRepeat ys → ((t : ℕ) → Contains xs t → Contains ys t → ⊥) → HasNoRepeat (xs ++ ys)
joined [] ys h k apart = k
joined (x ∷ xs) ys h k apart = (
  (λ at. ⊎_elim h.0 (λ other. apart x (at_first x xs) other) (Contains-append_cases xs ys x at)),
  joined xs ys h.1 k (λ t first second. apart t (in_rest x xs t first) second),
)

take_once : (n : ℕ) (xs : List ℕ) → HasNoRepeat xs → HasNoRepeat (take n xs)
take_once zero xs h = tt
take_once (suc n) [] h = tt
take_once (suc n) (x ∷ xs) h = ((λ at. h.0 (from_take n xs x at)), take_once n xs h.1)
  where
    from_take : (m : ℕ) (ys : List ℕ) (y : ℕ) → Contains (take m ys) y → Contains ys y
    from_take m ys y at = subst (λ (l : List ℕ). Contains l y) (take-append-drop m ys) (Contains-append_left (take m ys) (drop m ys) y at)

drop_once : (n : ℕ) (xs : List ℕ) → HasNoRepeat xs → HasNoRepeat (drop n xs)
drop_once zero xs h = h
drop_once (suc n) [] h = h
drop_once (suc n) (x ∷ xs) h = drop_once n xs h.1

-- the elements except that at an index
module _ (n : ℕ) where
  around : (xs : List ℕ) (i : ℕ) → HasNoRepeat xs → i < length xs → get_or xs i 0 ≡ n → (t : ℕ) → (Contains (take i xs) t ⊎ Contains (drop (suc i) xs) t) ↔ (Contains xs t × (t ≢ n))
  around [] i h less is t = absurd (omega arith)
  around (x ∷ xs) zero h less is t = (
    ⊎_elim nothing (λ at. (in_rest x xs t at, λ same. h.0 (subst (λ z. Contains xs z) (same ∙ sym is) at))),
    λ (at, other). inr (⊎_elim (λ same. absurd (other (sym same ∙ is))) (λ rest. rest) (first_or_rest x xs t at)),
  )
  around (x ∷ xs) (suc i) h less is t =
      let k = around xs i h.1 (omega arith) is t in (
        ⊎_elim
            (λ at. ⊎_elim (λ same. (subst (λ z. Contains (x ∷ xs) z) same (at_first x xs), λ e. h.0 (subst (λ z. Contains xs z) (sym (same ∙ e ∙ sym is)) (Contains-get_or xs i 0 (omega arith))))) (λ rest. let r = k.0 (inl rest) in (in_rest x xs t r.0, r.1)) (first_or_rest x (take i xs) t at))
            (λ at. let r = k.0 (inr at) in (in_rest x xs t r.0, r.1)),
        λ (at, other). ⊎_elim (λ same. inl (subst (λ z. Contains (x ∷ take i xs) z) same (at_first x (take i xs)))) (λ rest. ⊎_elim (λ l. inl (in_rest x (take i xs) t l)) (λ r. inr r) (k.1 (rest, other))) (first_or_rest x xs t at),
      )

  apart_around : (xs : List ℕ) (i : ℕ) → HasNoRepeat xs → (t : ℕ) → Contains (take i xs) t → Contains (drop (suc i) xs) t → ⊥
  apart_around xs zero h t first second = nothing first
  apart_around [] (suc i) h t first second = nothing first
  apart_around (x ∷ xs) (suc i) h t first second =
      ⊎_elim (λ same. h.0 (subst (λ z. Contains xs z) (sym same) (from_drop (suc i) xs t second))) (λ rest. apart_around xs i h.1 t rest second) (first_or_rest x (take i xs) t first)
    where
      from_drop : (m : ℕ) (ys : List ℕ) (y : ℕ) → Contains (drop m ys) y → Contains ys y
      from_drop m ys y at = subst (λ (l : List ℕ). Contains l y) (take-append-drop m ys) (Contains-append_right (take m ys) (drop m ys) y at)

-- ---- one edge

pub in_graph : (ty : GraphEdgeType) → (ty ≡ Missing → ⊥) → is_in_graph ty ≡ true
in_graph Missing h = absurd (h refl)
in_graph Direct h = refl
in_graph Indirect h = refl

module _ (left : List ℕ) (edge : GraphEdge ℕ) (old : List ℕ) where
  -- it is missing, or a column left of the node leads to its target
  pub settles_none : ((t : ℕ) → NeedsColumn left edge t → ⊥) → Settles left edge old old
  settles_none none = record { all = λ t. (inl, ⊎_elim (λ h. h) (λ needs. absurd (none t needs))); once = λ h. h }

  pub missing_needs_none : edge.edge_type ≡ Missing → (t : ℕ) → NeedsColumn left edge t → ⊥
  missing_needs_none is t (present, same, new) = true≢false (sym present ∙ ap is_in_graph is)

  pub left_needs_none : (i : ℕ) → i < length left → get_or left i 0 ≡ edge.target → (t : ℕ) → NeedsColumn left edge t → ⊥
  left_needs_none i less is t (present, same, new) = new (subst (Contains left) (is ∙ same) (Contains-get_or left i 0 less))

  pub settles_new : is_in_graph edge.edge_type ≡ true → (Contains left edge.target → ⊥) → (Contains old edge.target → ⊥) → Settles left edge old (edge.target ∷ old)
  settles_new present apart new = record {
    all = λ t. (
      (λ h. ⊎_elim (λ same. inr (present, same, λ at. apart (subst (Contains left) (sym same) at))) inl (first_or_rest edge.target old t h)),
      ⊎_elim (λ h. in_rest edge.target old t h) (λ (p, same, n). subst (λ z. Contains (edge.target ∷ old) z) same (at_first edge.target old)),
    );
    once = λ h. distinct_of (edge.target ∷ old) (new, no_repeat old h);
  }

  pub settles_joined : is_in_graph edge.edge_type ≡ true → (Contains left edge.target → ⊥) → (i : ℕ) → i < length old → get_or old i 0 ≡ edge.target → Settles left edge old (edge.target ∷ remove old i)
  settles_joined present apart i less is = record {
    all = λ t. (
      (λ h. ⊎_elim (λ same. inr (present, same, λ at. apart (subst (Contains left) (sym same) at))) (λ rest. inl (from_rest t rest)) (first_or_rest edge.target (remove old i) t h)),
      ⊎_elim (λ h. by_case (t == edge.target) t refl h) (λ (p, same, n). subst (λ z. Contains (edge.target ∷ remove old i) z) same (at_first edge.target (remove old i))),
    );
    once = λ h.
        let k = no_repeat old h in
        distinct_of (edge.target ∷ remove old i) (
          (λ at. ((around edge.target old i k less is edge.target).0 (Contains-append_cases (take i old) (drop (suc i) old) edge.target at)).1 refl),
          joined (take i old) (drop (suc i) old) (take_once i old k) (drop_once (suc i) old k) (apart_around edge.target old i k),
        );
  }
    where
      from_rest : (t : ℕ) → Contains (remove old i) t → Contains old t
      from_rest t at = ⊎_elim (λ l. subst (λ (xs : List ℕ). Contains xs t) (take-append-drop i old) (Contains-append_left (take i old) (drop i old) t l))
          (λ r. subst (λ (xs : List ℕ). Contains xs t) (take-append-drop (suc i) old) (Contains-append_right (take (suc i) old) (drop (suc i) old) t r)) (Contains-append_cases (take i old) (drop (suc i) old) t at)

      in_other : (xs : List ℕ) (j : ℕ) (t : ℕ) → Contains xs t → get_or xs j 0 ≡ edge.target → (t ≡ edge.target → ⊥) → Contains (take j xs ++ drop (suc j) xs) t
      in_other [] j t at e other = nothing at
      in_other (x ∷ xs) zero t at e other = ⊎_elim (λ same. absurd (other (sym same ∙ e))) (λ rest. rest) (first_or_rest x xs t at)
      in_other (x ∷ xs) (suc j) t at e other = ⊎_elim (λ same. subst (λ z. Contains (x ∷ (take j xs ++ drop (suc j) xs)) z) same (at_first x (take j xs ++ drop (suc j) xs))) (λ rest. in_rest x (take j xs ++ drop (suc j) xs) t (in_other xs j t rest e other)) (first_or_rest x xs t at)

      by_case : (b : Bool) (t : ℕ) → (t == edge.target) ≡ b → Contains old t → Contains (edge.target ∷ remove old i) t
      by_case true t e h = subst (λ z. Contains (edge.target ∷ remove old i) z) (sym ((Decides-eqb t edge.target).0 e)) (at_first edge.target (remove old i))
      by_case false t e h = in_rest edge.target (remove old i) t (in_other old i t h is (λ same. true≢false (sym ((Decides-eqb t edge.target).1 same) ∙ e)))

-- ---- all edges

pub settles_no_edge : (left old : List ℕ) → SettlesAll left [] old old
settles_no_edge left old = record { all = λ t. (inl, ⊎_elim (λ h. h) (λ (edge, at, needs). nothing at)); once = λ h. h }

pub settles_more : (left : List ℕ) (all later : List (GraphEdge ℕ)) (edge : GraphEdge ℕ) (old mid new : List ℕ) → all ≡ edge ∷ later → SettlesAll left later old mid → Settles left edge mid new → SettlesAll left all old new
settles_more left all later edge old mid new same first second = subst (λ (l : List (GraphEdge ℕ)). SettlesAll left l old new) (sym same) (record {
  all = λ t. (
    (λ h. ⊎_elim (λ earlier. ⊎_elim inl (λ (e, at, needs). inr (e, in_rest edge later e at, needs)) ((first.all t).0 earlier)) (λ needs. inr (edge, at_first edge later, needs)) ((second.all t).0 h)),
    ⊎_elim (λ h. (second.all t).1 (inl ((first.all t).1 (inl h))))
        (λ (e, at, needs). ⊎_elim (λ is. (second.all t).1 (inr (subst (λ x. NeedsColumn left x t) (sym is) needs))) (λ rest. (second.all t).1 (inl ((first.all t).1 (inr (e, rest, needs))))) (first_or_rest edge later e at)),
  );
  once = λ h. second.once (first.once h);
})

-- ---- a row

in_targets : (edges : List (GraphEdge ℕ)) (edge : GraphEdge ℕ) → Contains edges edge → is_in_graph edge.edge_type ≡ true → Contains (targets_of edges) edge.target
in_targets [] edge at present = nothing at
in_targets (e ∷ edges) edge at present = by_case (is_in_graph e.edge_type) refl (λ rest. in_targets edges edge rest present)
  where
    by_case : (b : Bool) → is_in_graph e.edge_type ≡ b → (Contains edges edge → Contains (targets_of edges) edge.target) → Contains (map (λ x. x.target) (cond (is_in_graph e.edge_type) (e ∷ filter (λ x. is_in_graph x.edge_type) edges) (filter (λ x. is_in_graph x.edge_type) edges))) edge.target
    by_case true k more = subst (λ b. Contains (map (λ x. x.target) (cond b (e ∷ filter (λ x. is_in_graph x.edge_type) edges) (filter (λ x. is_in_graph x.edge_type) edges))) edge.target) (sym k)
        (⊎_elim (λ same. subst (λ (x : GraphEdge ℕ). Contains (e.target ∷ targets_of edges) x.target) same (at_first e.target (targets_of edges))) (λ rest. in_rest e.target (targets_of edges) edge.target (more rest)) (first_or_rest e edges edge at))
    by_case false k more = subst (λ b. Contains (map (λ x. x.target) (cond b (e ∷ filter (λ x. is_in_graph x.edge_type) edges) (filter (λ x. is_in_graph x.edge_type) edges))) edge.target) (sym k)
        (⊎_elim (λ same. absurd (true≢false (sym present ∙ ap (λ (x : GraphEdge ℕ). is_in_graph x.edge_type) (sym same) ∙ k))) more (first_or_rest e edges edge at))

from_targets : (edges : List (GraphEdge ℕ)) (t : ℕ) → Contains (targets_of edges) t → (edge : GraphEdge ℕ) × Contains edges edge × (is_in_graph edge.edge_type ≡ true) × (edge.target ≡ t)
from_targets [] t h = nothing h
from_targets (e ∷ edges) t h = by_case (is_in_graph e.edge_type) refl h (λ rest. from_targets edges t rest)
  where
    by_case : (b : Bool) → is_in_graph e.edge_type ≡ b → Contains (map (λ x. x.target) (cond (is_in_graph e.edge_type) (e ∷ filter (λ x. is_in_graph x.edge_type) edges) (filter (λ x. is_in_graph x.edge_type) edges))) t
        → (Contains (targets_of edges) t → (edge : GraphEdge ℕ) × Contains edges edge × (is_in_graph edge.edge_type ≡ true) × (edge.target ≡ t))
        → (edge : GraphEdge ℕ) × Contains (e ∷ edges) edge × (is_in_graph edge.edge_type ≡ true) × (edge.target ≡ t)
    by_case true k at more =
        let there = subst (λ b. Contains (map (λ x. x.target) (cond b (e ∷ filter (λ x. is_in_graph x.edge_type) edges) (filter (λ x. is_in_graph x.edge_type) edges))) t) k at in
        ⊎_elim (λ same. (e, at_first e edges, k, same)) (λ rest. let (x, inside, present, is) = more rest in (x, in_rest e edges x inside, present, is)) (first_or_rest e.target (targets_of edges) t there)
    by_case false k at more =
        let there = subst (λ b. Contains (map (λ x. x.target) (cond b (e ∷ filter (λ x. is_in_graph x.edge_type) edges) (filter (λ x. is_in_graph x.edge_type) edges))) t) k at in
        let (x, inside, present, is) = more there in
        (x, in_rest e edges x inside, present, is)

opened_once : (before : List ℕ) (n : ℕ) → IsDistinct eqb before → IsDistinct eqb (opened before n)
opened_once before n h = by_case (list_any (λ t. t == n) before) refl
  where
    by_case : (b : Bool) → list_any (λ t. t == n) before ≡ b → IsDistinct eqb (cond (list_any (λ t. t == n) before) before (before ++ n ∷ []))
    by_case true e = subst (λ b. IsDistinct eqb (cond b before (before ++ n ∷ []))) (sym e) h
    by_case false e = subst (λ b. IsDistinct eqb (cond b before (before ++ n ∷ []))) (sym e) (IsDistinct-push nat_eq_equiv before n h (none_from before n e))

opened_same : (before : List ℕ) (n t : ℕ) → (t ≢ n) → Contains (opened before n) t ↔ Contains before t
opened_same before n t other = by_case (list_any (λ x. x == n) before) refl
  where
    by_case : (b : Bool) → list_any (λ x. x == n) before ≡ b → Contains (cond (list_any (λ x. x == n) before) before (before ++ n ∷ [])) t ↔ Contains before t
    by_case true e = subst (λ b. Contains (cond b before (before ++ n ∷ [])) t ↔ Contains before t) (sym e) ((λ h. h), λ h. h)
    by_case false e = subst (λ b. Contains (cond b before (before ++ n ∷ [])) t ↔ Contains before t) (sym e)
        ((λ h. ⊎_elim (λ l. l) (λ r. ⊎_elim (λ same. absurd (other (sym same))) nothing (first_or_rest n [] t r)) (Contains-append_cases before (n ∷ []) t h)), λ h. Contains-append_left before (n ∷ []) t h)

module _ (before : List ℕ) (node column : ℕ) (edges : List (GraphEdge ℕ)) (right after : List ℕ) (less : column < length (opened before node)) (is : get_or (opened before node) column 0 ≡ node)
    (settles : SettlesAll (take column (opened before node)) edges (drop (suc column) (opened before node)) right) (whole : after ≡ take column (opened before node) ++ right) where
  left : List ℕ
  left = take column (opened before node)

  has_left : (t : ℕ) → (Contains left t) ⊎ (Contains left t → ⊥)
  has_left t = by_case (list_any (λ x. x == t) left) refl
    where
      by_case : (b : Bool) → list_any (λ x. x == t) left ≡ b → (Contains left t) ⊎ (Contains left t → ⊥)
      by_case true e = inl (any_at left t e)
      by_case false e = inr (λ h. true≢false (sym (any_from left t h) ∙ e))

  pub row_pending : IsDistinct eqb before → (t : ℕ) → Contains after t ↔ ((Contains before t × (t ≢ node)) ⊎ Contains (targets_of edges) t)
  unfolding left
  row_pending once t =
      let k = around node (opened before node) column (no_repeat (opened before node) (opened_once before node once)) less is t in
      let old : (Contains left t ⊎ Contains (drop (suc column) (opened before node)) t) → (Contains before t × (t ≢ node)) = λ h. let r = k.0 h in ((opened_same before node t r.1).0 r.0, r.1) in
      let back : (Contains before t × (t ≢ node)) → (Contains left t ⊎ Contains (drop (suc column) (opened before node)) t) = λ (h, other). k.1 ((opened_same before node t other).1 h, other) in (
        (λ h. ⊎_elim (λ l. inl (old (inl l))) (λ r. ⊎_elim (λ o. inl (old (inr o))) (λ (edge, at, (present, same, new)). inr (subst (Contains (targets_of edges)) same (in_targets edges edge at present))) ((settles.all t).0 r)) (Contains-append_cases left right t (subst (λ (l : List ℕ). Contains l t) whole h))),
        λ h. subst (λ (l : List ℕ). Contains l t) (sym whole) (⊎_elim
            (λ pending. ⊎_elim (λ l. Contains-append_left left right t l) (λ r. Contains-append_right left right t ((settles.all t).1 (inl r))) (back pending))
            (λ target. ⊎_elim (λ l. Contains-append_left left right t l) (λ new. let (edge, at, present, same) = from_targets edges t target in Contains-append_right left right t ((settles.all t).1 (inr (edge, at, (present, same, new))))) (has_left t)) h),
      )

  pub row_once : IsDistinct eqb before → IsDistinct eqb after
  unfolding left
  row_once once =
      let all = no_repeat (opened before node) (opened_once before node once) in
      subst (IsDistinct eqb) (sym whole) (distinct_of (left ++ right) (joined left right (take_once column (opened before node) all)
      (no_repeat right (settles.once (distinct_of (drop (suc column) (opened before node)) (drop_once (suc column) (opened before node) all))))
      (λ t first second. ⊎_elim (λ old. apart_around node (opened before node) column all t first old) (λ (edge, at, (present, same, new)). new first) ((settles.all t).0 second))))

pub more_rows : (most : ℕ) (before : List ℕ) (rows : List Row) (row : Row) (mid after : List ℕ) → AreRows most before rows mid → IsRow most mid row after → AreRows most before (rows ++ row ∷ []) after
more_rows most before [] row mid after same is = (after, subst (λ (l : List ℕ). IsRow most l row after) (sym same) is, refl)
more_rows most before (r ∷ rows) row mid after (next, first, rest) is = (next, first, more_rows most next rows row mid after rest is)

pub opened_added : (columns : List ℕ) (n : ℕ) → (Contains columns n → ⊥) → columns ++ n ∷ [] ≡ opened columns n
opened_added columns n none = ap (λ b. cond b columns (columns ++ n ∷ [])) (sym (false_from (list_any (λ t. t == n) columns) (λ yes. none (any_at columns n yes))))

pub present : (ty : GraphEdgeType) (missing : Bool) → (IsTrue missing ↔ (ty ≡ Missing)) → missing ≡ false → is_in_graph ty ≡ true
present ty missing says visible = in_graph ty (λ is. true≢false (sym (says.1 is) ∙ visible))

-- ---- the results of a look-up

abbrev Found : List ℕ → ℕ → Option ℕ → Type 0
Found columns t o = MatchOption o (Contains columns t → ⊥) (λ c. (c < length columns) × (get_or columns c 0 ≡ t))

pub absent : (columns : List ℕ) (t : ℕ) (o : Option ℕ) → o ≡ None → Found columns t o → Contains columns t → ⊥
absent columns t o e h = subst (Found columns t) e h

pub found : (columns : List ℕ) (t : ℕ) (o : Option ℕ) (c : ℕ) → o ≡ Some c → Found columns t o → (c < length columns) × (get_or columns c 0 ≡ t)
found columns t o c e h = subst (Found columns t) e h
