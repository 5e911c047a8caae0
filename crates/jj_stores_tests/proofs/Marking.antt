-- The mark phase of garbage collection: its invariant and its measure.
use Rattle.std.proofs.Common.{◌≡◌, ◌⊎◌, ◌↔◌, inl, inr, ℕ, suc, ◌+◌, ◌<◌, ◌≤◌, Bool, true, false, not, cond, List, [], ◌∷◌, ◌++◌, length, Some, None, IsSome, refl, sym, ap, subst, ◌∙◌, arith, length-append}
use Rattle.std.proofs.Math.ListN.{get_or-append}
use Rattle.std.proofs.lemmas.List.Elements.{All-append, All-contains, Contains-append_left, Contains-append_right, Contains-get_or, Contains-push, Contains-push_cases}
use Rattle.std.specs.BTreeMap.{is_at}
use Rattle.std.specs.BTreeSet.{BTreeSet, IsEmpty, IsUnchanged, Updates}
use Rattle.std.specs.Cmp.Lexicographic.{bytes_decides, same_text, slice_cmp, texts_ties}
use Rattle.std.specs.List.{list_any}
use Rattle.std.specs.Map.{lookup}
use Rattle.std.specs.Ordering.{nat_cmp}
use Rattle.std.specs.Prelude.{All, Contains}
use Rattle.std.specs.Str.{bytes_eq}
use Rattle.jj_backend.specs.Objects.{ById}
use Rattle.jj_stores.specs.OpStores.{IsReachable, IsReachableView}
use Rattle.jj_stores.specs.OpStores.IsReachable.{head, parent}
use Rattle.jj_stores.specs.declared.op_store.operation.Operation.{Operation}
use Rattle.jj_stores_tests.specs.MemoryStores.{Adds, IsVisit, by_id, has_id}

-- ---- sets that gain an id

module _ (old new : List ℕ → Bool) (id : List ℕ) (adds : Adds old new id) where
  pub added : new id ≡ true
  added = adds id ∙ ap (λ (b : Bool). cond b true (old id)) ((bytes_decides id id).1 refl)

  pub stays : (q : List ℕ) → old q ≡ true → new q ≡ true
  stays q h = adds q ∙ either (bytes_eq id q)
    where
      either : (b : Bool) → cond b true (old q) ≡ true
      either true = refl
      either false = h

  pub added_or_old : (q : List ℕ) → new q ≡ true → (id ≡ q) ⊎ (old q ≡ true)
  added_or_old q h = by_test (bytes_eq id q) refl
    where
      by_test : (b : Bool) → bytes_eq id q ≡ b → (id ≡ q) ⊎ (old q ≡ true)
      by_test true e = inl (same_text id q (sym e))
      by_test false e = inr (sym (adds q ∙ ap (λ (b : Bool). cond b true (old q)) e) ∙ h)

-- ---- the invariant

module _ (operations : ById Operation) (heads : List (List ℕ)) where
  -- the operation is pending, marked, or missing
  abbrev pub IsSeen : List (List ℕ) → (List ℕ → Bool) → List ℕ → Type 0
  IsSeen pending marked id = Contains pending id ⊎ (marked id ≡ true) ⊎ (operations id ≡ None)

  pub record Marking (pending : List (List ℕ)) (marked views : List ℕ → Bool) : Type 0 where
    pub reached : All (IsReachable operations heads) pending
    pub sound : (id : List ℕ) → marked id ≡ true → IsReachable operations heads id
    pub views_sound : (id : List ℕ) → views id ≡ true → IsReachableView operations heads id
    pub starts : (id : List ℕ) → Contains heads id → IsSeen pending marked id
    pub closed : (id parent_id : List ℕ) (operation : Operation) → marked id ≡ true → operations id ≡ Some operation → Contains operation.parents.items parent_id → IsSeen pending marked parent_id
    pub viewed : (id : List ℕ) (operation : Operation) → marked id ≡ true → operations id ≡ Some operation → views operation.view_id ≡ true

  pub marking_none : (marked views : List ℕ → Bool) → ((q : List ℕ) → marked q ≡ false) → ((q : List ℕ) → views q ≡ false) → Marking heads marked views
  marking_none marked views none none_viewed = record {
    reached = λ k d lt. head (Contains-get_or heads k d lt);
    sound = λ id is. let e : false ≡ true = sym (none id) ∙ is in absurd cc;
    views_sound = λ id is. let e : false ≡ true = sym (none_viewed id) ∙ is in absurd cc;
    starts = λ id c. inl c;
    closed = λ id parent_id operation is. let e : false ≡ true = sym (none id) ∙ is in absurd cc;
    viewed = λ id operation is. let e : false ≡ true = sym (none id) ∙ is in absurd cc;
  }

  module _ (rest : List (List ℕ)) (id : List ℕ) (marked views : List ℕ → Bool) (old : Marking (rest ++ id ∷ []) marked views) where
    rest_reached : All (IsReachable operations heads) rest
    rest_reached k d lt = subst (IsReachable operations heads) (get_or-append rest (id ∷ []) d k lt) (old.reached k d (omega (arith, length-append rest (id ∷ []))))

    itself : IsReachable operations heads id
    itself = All-contains (IsReachable operations heads) (rest ++ id ∷ []) id old.reached (Contains-push rest id)

    still_seen : (marked id ≡ true) ⊎ (operations id ≡ None) → (q : List ℕ) → IsSeen (rest ++ id ∷ []) marked q → IsSeen rest marked q
    still_seen passed q (inr other) = inr other
    still_seen passed q (inl c) = elim (Contains-push_cases rest id q c) [
      | inl among ↦ inl among
      | inr same ↦ inr (subst (λ q. (marked q ≡ true) ⊎ (operations q ≡ None)) same passed)
    ]

    -- an operation that is marked already or missing
    passed : (marked id ≡ true) ⊎ (operations id ≡ None) → Marking rest marked views
    passed is = record {
      reached = rest_reached;
      sound = old.sound;
      views_sound = old.views_sound;
      starts = λ q c. still_seen is q (old.starts q c);
      closed = λ q p operation m at c. still_seen is p (old.closed q p operation m at c);
      viewed = old.viewed;
    }

    -- an operation that is marked now
    module _ (operation : Operation) (at : operations id ≡ Some operation) (new_marked new_views : List ℕ → Bool) (adds : Adds marked new_marked id) (adds_view : Adds views new_views operation.view_id) where
      seen_more : (q : List ℕ) → IsSeen (rest ++ id ∷ []) marked q → IsSeen (rest ++ operation.parents.items) new_marked q
      seen_more q (inr (inl m)) = inr (inl (stays marked new_marked id adds q m))
      seen_more q (inr (inr none)) = inr (inr none)
      seen_more q (inl c) = elim (Contains-push_cases rest id q c) [
        | inl among ↦ inl (Contains-append_left rest operation.parents.items q among)
        | inr same ↦ inr (inl (subst (λ q. new_marked q ≡ true) same (added marked new_marked id adds)))
      ]

      same_operation : (q : List ℕ) (other : Operation) → id ≡ q → operations q ≡ Some other → operation ≡ other
      same_operation q other same is = let e : Some operation ≡ Some other = sym at ∙ ap operations same ∙ is in cc

      visited : Marking (rest ++ operation.parents.items) new_marked new_views
      visited = record {
        reached = All-append (IsReachable operations heads) rest operation.parents.items rest_reached (λ k d lt. parent itself at (Contains-get_or operation.parents.items k d lt));
        sound = λ q m. elim (added_or_old marked new_marked id adds q m) [
          | inl same ↦ subst (IsReachable operations heads) same itself
          | inr m' ↦ old.sound q m'
        ];
        views_sound = λ q v. elim (added_or_old views new_views operation.view_id adds_view q v) [
          | inl same ↦ (id, operation, itself, at, same)
          | inr v' ↦ old.views_sound q v'
        ];
        starts = λ q c. seen_more q (old.starts q c);
        closed = λ q p other m is c. elim (added_or_old marked new_marked id adds q m) [
          | inl same ↦ inl (Contains-append_right rest operation.parents.items p (subst (λ (o : Operation). Contains o.parents.items p) (sym (same_operation q other same is)) c))
          | inr m' ↦ seen_more p (old.closed q p other m' is c)
        ];
        viewed = λ q other m is. elim (added_or_old marked new_marked id adds q m) [
          | inl same ↦ subst (λ (o : Operation). new_views o.view_id ≡ true) (same_operation q other same is) (added views new_views operation.view_id adds_view)
          | inr m' ↦ stays views new_views operation.view_id adds_view other.view_id (old.viewed q other m' is)
        ];
      }

  same_marking : (pending : List (List ℕ)) (marked new_marked views new_views : List ℕ → Bool) → ((q : List ℕ) → new_marked q ≡ marked q) → ((q : List ℕ) → new_views q ≡ views q)
      → Marking pending marked views → Marking pending new_marked new_views
  same_marking pending marked new_marked views new_views e f h =
      subst (λ v. Marking pending new_marked v) (λ i q. sym (f q) i) (subst (λ m. Marking pending m views) (λ i q. sym (e q) i) h)

  -- one visit
  pub marking_next : (all rest pending : List (List ℕ)) (id : List ℕ) (marked new_marked views new_views : List ℕ → Bool) → all ≡ rest ++ id ∷ [] → IsVisit operations id rest pending marked new_marked views new_views
      → Marking all marked views → Marking pending new_marked new_views
  marking_next all rest pending id marked new_marked views new_views popped visit old = by_visit visit (subst (λ l. Marking l marked views) popped old)
    where
      by_visit : IsVisit operations id rest pending marked new_marked views new_views → Marking (rest ++ id ∷ []) marked views → Marking pending new_marked new_views
      by_visit (inl same) h = subst (λ l. Marking l new_marked new_views) (sym same.1) (same_marking rest marked new_marked views new_views same.2 same.3 (passed rest id marked views h same.0))
      by_visit (inr (operation, at, fresh, pushed, adds, adds_view)) h =
          subst (λ l. Marking l new_marked new_views) (sym pushed) (visited rest id marked views h operation at new_marked new_views adds adds_view)

  -- ---- nothing is pending

  module _ (marked views : List ℕ → Bool) (done : Marking [] marked views) where
    settled : (id : List ℕ) → IsSeen [] marked id → (marked id ≡ true) ⊎ (operations id ≡ None)
    settled id (inl c) = absurd (omega (arith, c.1))
    settled id (inr h) = h

    reached_marked : (id : List ℕ) → IsReachable operations heads id → (marked id ≡ true) ⊎ (operations id ≡ None)
    reached_marked id (head c) = settled id (done.starts id c)
    reached_marked id (parent {id = child} {operation = operation} r at c) = elim (reached_marked child r) [
      | inl m ↦ settled id (done.closed child id operation m at c)
      | inr none ↦ let e : Some operation ≡ None = sym at ∙ none in absurd cc
    ]

    stored_marked : (id : List ℕ) → IsSome (operations id) → IsReachable operations heads id → marked id ≡ true
    stored_marked id there r = elim (reached_marked id r) [
      | inl m ↦ m
      | inr none ↦ let e : false ≡ true = subst IsSome none there in absurd cc
    ]

    pub all_marked : (id : List ℕ) → IsSome (operations id) → (marked id ≡ true) ↔ IsReachable operations heads id
    all_marked id there = (done.sound id, stored_marked id there)

    view_marked : (id : List ℕ) → IsReachableView operations heads id → views id ≡ true
    view_marked id v =
        subst (λ q. views q ≡ true) v.4
        (done.viewed v.0 v.1 (stored_marked v.0 (subst IsSome (sym v.3) refl) v.2) v.3)

    pub all_views_marked : (id : List ℕ) → (views id ≡ true) ↔ IsReachableView operations heads id
    all_views_marked id = (done.views_sound id, view_marked id)

-- ---- the measure: pending operations, and one more than the parents of each unmarked operation

abbrev pub weight : Bool → Operation → ℕ
weight marked operation = cond marked 0 (suc (length operation.parents.items))

abbrev pub unmarked : (List ℕ → Bool) → List (List ℕ × Operation) → ℕ
unmarked marked [] = 0
unmarked marked (e ∷ es) = weight (marked e.0) e.1 + unmarked marked es

weight-less : (a b : Bool) (operation : Operation) → (a ≡ true → b ≡ true) → weight b operation ≤ weight a operation
weight-less true b operation h = let e : b ≡ true = h refl in rw e (omega arith)
weight-less false true operation h = omega arith
weight-less false false operation h = omega arith

unmarked-less : (marked new : List ℕ → Bool) → ((q : List ℕ) → marked q ≡ true → new q ≡ true) → (es : List (List ℕ × Operation)) → unmarked new es ≤ unmarked marked es
unmarked-less marked new more [] = omega arith
unmarked-less marked new more (e ∷ es) = omega (arith, weight-less (marked e.0) (new e.0) e.1 (more e.0), unmarked-less marked new more es)

unmarked-visit : (marked new : List ℕ → Bool) (id : List ℕ) (operation : Operation) → Adds marked new id → marked id ≡ false → (es : List (List ℕ × Operation)) → lookup (bytes_eq id) es ≡ Some operation
    → unmarked new es + suc (length operation.parents.items) ≤ unmarked marked es
unmarked-visit marked new id operation adds fresh [] is = absurd cc
unmarked-visit marked new id operation adds fresh (e ∷ es) is = by_test (λ h. unmarked-visit marked new id operation adds fresh es h) (bytes_eq id e.0) refl
  where
    by_test : (lookup (bytes_eq id) es ≡ Some operation → unmarked new es + suc (length operation.parents.items) ≤ unmarked marked es) → (b : Bool) → bytes_eq id e.0 ≡ b
        → unmarked new (e ∷ es) + suc (length operation.parents.items) ≤ unmarked marked (e ∷ es)
    by_test hyp true t =
        let same : id ≡ e.0 = same_text id e.0 (sym t) in
        let found : Some e.1 ≡ Some operation = rw t at is in
        let value : e.1 ≡ operation = cc in
        let now : weight (new e.0) e.1 ≡ 0 = ap (λ b. weight b e.1) (ap new (sym same) ∙ added marked new id adds) in
        let before : weight (marked e.0) e.1 ≡ suc (length operation.parents.items) = ap (λ b. weight b e.1) (ap marked (sym same) ∙ fresh) ∙ ap (λ (o : Operation). suc (length o.parents.items)) value in
        omega (arith, now, before, unmarked-less marked new (stays marked new id adds) es)
    by_test hyp false t =
        let same : weight (new e.0) e.1 ≡ weight (marked e.0) e.1 = ap (λ b. weight b e.1) (adds e.0 ∙ ap (λ (b : Bool). cond b true (marked e.0)) t) in
        omega (arith, same, hyp (rw t at is))

-- a visit decreases the measure
pub visit_less : (entries : List (List ℕ × Operation)) (all rest pending : List (List ℕ)) (id : List ℕ) (marked new views new_views : List ℕ → Bool) → all ≡ rest ++ id ∷ []
    → IsVisit (by_id entries) id rest pending marked new views new_views → length pending + unmarked new entries < length all + unmarked marked entries
unfolding by_id
visit_less entries all rest pending id marked new views new_views popped (inl same) =
    omega (arith, ap length popped, ap length same.1, length-append rest (id ∷ []), unmarked-less marked new (λ q m. same.2 q ∙ m) entries)
visit_less entries all rest pending id marked new views new_views popped (inr (operation, at, fresh, pushed, adds, adds_view)) =
    omega (arith, ap length popped, ap length pushed, length-append rest (id ∷ []), length-append rest operation.parents.items, unmarked-visit marked new id operation adds fresh entries at)

-- a set of ids that gains one
pub adds_id : (s n : BTreeSet (List ℕ)) (id : List ℕ) → Updates (slice_cmp nat_cmp) s n id true → Adds (has_id s) (has_id n) id
adds_id s n id u q = u.0 q ∙ ap (λ (b : Bool). cond b true (has_id s q)) (sym (texts_ties id q))

pub same_ids : (s n : BTreeSet (List ℕ)) → IsUnchanged s n → (q : List ℕ) → has_id n q ≡ has_id s q
same_ids s n same q = ap (λ ks. list_any (is_at (slice_cmp nat_cmp q)) ks) same

pub no_ids : (s : BTreeSet (List ℕ)) → IsEmpty s → (q : List ℕ) → has_id s q ≡ false
no_ids s none q = ap (λ ks. list_any (is_at (slice_cmp nat_cmp q)) ks) none

-- an id that was inserted was not there
pub was_fresh : (a b : Bool) → a ≡ not b → a ≡ true → b ≡ false
was_fresh a true e t = let h : true ≡ false = sym t ∙ e in absurd cc
was_fresh a false e t = refl

pub nothing_left : (pending : List (List ℕ)) → length pending ≡ 0 → pending ≡ []
nothing_left [] e = refl
nothing_left (x ∷ xs) e = absurd (omega arith)
