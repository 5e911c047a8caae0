-- The sweep of garbage collection: the ids that are neither marked nor new, and their removal.
use Rattle.std.proofs.Common.{◌≡◌, ◌⊎◌, ◌↔◌, inl, inr, ℕ, Bool, true, false, cond, ◌||◌, List, [], ◌∷◌, ◌++◌, Option, Some, None, IsSome, refl, sym, ap, subst, ◌∙◌, arith}
use Rattle.std.proofs.lemmas.List.Elements.{Contains-append_cases, Contains-append_left, Contains-append_right, Contains-push, Contains-push_cases}
use Rattle.std.specs.BTreeMap.{BTreeMap, Updates, get_by}
use Rattle.std.specs.Cmp.Lexicographic.{bytes_decides, same_text, slice_cmp, texts_ties}
use Rattle.std.specs.Ordering.{nat_cmp}
use Rattle.std.specs.Map.{keys_of, lookup}
use Rattle.std.specs.BTreeSet.{BTreeSet}
use Rattle.std.specs.Prelude.{Contains, IfOk, Result, Ok, Err}
use Rattle.std.specs.Str.{bytes_eq}
use Rattle.jj_backend.specs.Objects.{ById, put}
use Rattle.jj_backend.specs.declared.backend.timestamp.MillisSinceEpoch.{MillisSinceEpoch}
use Rattle.jj_stores.specs.OpStores.{LacksOthers, RemovesOthers, SetsTime, Times, is_newer}
use Rattle.jj_stores_tests.specs.MemoryStores.{by_id, has_id, is_kept}
use Rattle.jj_stores_tests.proofs.IdMaps.{by_id-get}

pub or_cases : (a b : Bool) → (a || b) ≡ true → (a ≡ true) ⊎ (b ≡ true)
or_cases true b h = inl refl
or_cases false b h = inr h

pub or_from : (a b : Bool) → (a ≡ true) ⊎ (b ≡ true) → (a || b) ≡ true
or_from true b h = refl
or_from false b (inl h) = absurd cc
or_from false b (inr h) = h

nowhere : (id : List ℕ) → Contains {X = List ℕ} [] id → ⊥
nowhere id c = omega (arith, c.1)

contains_cons : (x : List ℕ) (xs : List (List ℕ)) (y : List ℕ) → Contains (x ∷ xs) y → (x ≡ y) ⊎ Contains xs y
contains_cons x xs y c = by_part (Contains-append_cases (x ∷ []) xs y c)
  where
    by_part : Contains (x ∷ []) y ⊎ Contains xs y → (x ≡ y) ⊎ Contains xs y
    by_part (inr among) = inr among
    by_part (inl first) = elim (Contains-push_cases [] x y first) [ inl none ↦ absurd (nowhere y none) | inr same ↦ inl same ]

-- ---- the ids of the garbage

module _ (kept : List ℕ → Bool) where
  -- the removed ones of the ids so far
  pub record Swept (done ids : List (List ℕ)) : Type 0 where
    pub sound : (id : List ℕ) → Contains ids id → Contains done id × (kept id ≡ false)
    pub complete : (id : List ℕ) → Contains done id → kept id ≡ false → Contains ids id

  pub swept_none : Swept [] []
  swept_none = record { sound = λ id c. absurd (nowhere id c); complete = λ id c. absurd (nowhere id c) }

  pub swept_kept : (done ids : List (List ℕ)) (x : List ℕ) → kept x ≡ true → Swept done ids → Swept (done ++ x ∷ []) ids
  swept_kept done ids x is h = record {
    sound = λ id c. (Contains-append_left done (x ∷ []) id (h.sound id c).0, (h.sound id c).1);
    complete = λ id c k. elim (Contains-push_cases done x id c) [
      | inl among ↦ h.complete id among k
      | inr same ↦ let e : true ≡ false = sym is ∙ ap kept same ∙ k in absurd cc
    ];
  }

  pub swept_more : (done ids : List (List ℕ)) (x : List ℕ) → kept x ≡ false → Swept done ids → Swept (done ++ x ∷ []) (ids ++ x ∷ [])
  swept_more done ids x is h = record {
    sound = λ id c. elim (Contains-push_cases ids x id c) [
      | inl among ↦ (Contains-append_left done (x ∷ []) id (h.sound id among).0, (h.sound id among).1)
      | inr same ↦ (subst (Contains (done ++ x ∷ [])) same (Contains-push done x), ap kept (sym same) ∙ is)
    ];
    complete = λ id c k. elim (Contains-push_cases done x id c) [
      | inl among ↦ Contains-append_left ids (x ∷ []) id (h.complete id among k)
      | inr same ↦ subst (Contains (ids ++ x ∷ [])) same (Contains-push ids x)
    ];
  }

module _ {V : Type 0} where
  key_mapped : (es : List (List ℕ × V)) (id : List ℕ) → Contains (keys_of es) id → IsSome (lookup (bytes_eq id) es)
  key_mapped [] id c = absurd (nowhere id c)
  key_mapped (e ∷ es) id c = by_test (λ h. key_mapped es id h) (bytes_eq id e.0) refl
    where
      later : (e.0 ≡ id → ⊥) → Contains (keys_of es) id
      later other = elim (contains_cons e.0 (keys_of es) id c) [ inl first ↦ absurd (other first) | inr among ↦ among ]

      by_test : (Contains (keys_of es) id → IsSome (lookup (bytes_eq id) es)) → (b : Bool) → bytes_eq id e.0 ≡ b → IsSome (lookup (bytes_eq id) (e ∷ es))
      by_test hyp true t = rw t refl
      by_test hyp false t = rw t (hyp (later (λ same. let e : true ≡ false = sym ((bytes_decides id e.0).1 (sym same)) ∙ t in absurd cc)))

  mapped_key : (es : List (List ℕ × V)) (id : List ℕ) → IsSome (lookup (bytes_eq id) es) → Contains (keys_of es) id
  mapped_key [] id some = absurd cc
  mapped_key (e ∷ es) id some = by_test (λ h. mapped_key es id h) (bytes_eq id e.0) refl
    where
      by_test : (IsSome (lookup (bytes_eq id) es) → Contains (keys_of es) id) → (b : Bool) → bytes_eq id e.0 ≡ b → Contains (keys_of (e ∷ es)) id
      by_test hyp true t =
          subst (Contains (e.0 ∷ keys_of es)) (sym (same_text id e.0 (sym t))) (Contains-append_left (e.0 ∷ []) (keys_of es) e.0 (Contains-push [] e.0))
      by_test hyp false t = Contains-append_right (e.0 ∷ []) (keys_of es) id (hyp (rw t at some))

  -- the garbage of a map
  pub all_swept : (kept : List ℕ → Bool) (es : List (List ℕ × V)) (done ids : List (List ℕ)) → done ≡ keys_of es → Swept kept done ids → (id : List ℕ) → Contains ids id ↔ (IsSome (by_id es id) × (kept id ≡ false))
  unfolding by_id
  all_swept kept es done ids all h id = (
    λ c. (key_mapped es id (subst (λ l. Contains l id) all (h.sound id c).0), (h.sound id c).1),
    λ s. h.complete id (subst (λ l. Contains l id) (sym all) (mapped_key es id s.0)) s.1,
  )

  -- ---- removal

  pub by_id-remove : (m n : BTreeMap (List ℕ) V) (id : List ℕ) → Updates (slice_cmp nat_cmp) m n id None → (q : List ℕ) → by_id n.entries q ≡ cond (bytes_eq id q) None (by_id m.entries q)
  by_id-remove m n id u q =
      by_id-get n q ∙ u.0 q ∙ ap (λ (b : Bool). cond b None (get_by (slice_cmp nat_cmp q) m)) (sym (texts_ties id q))
      ∙ ap (λ o. cond (bytes_eq id q) None o) (sym (by_id-get m q))

  -- the values with these ids are removed
  pub record Removed (ids : List (List ℕ)) (old new : ById V) : Type 0 where
    pub gone : (id : List ℕ) → Contains ids id → new id ≡ None
    pub others : (id : List ℕ) → ¬ Contains ids id → new id ≡ old id

  pub removed_none : (old : ById V) → Removed [] old old
  removed_none old = record { gone = λ id c. absurd (nowhere id c); others = λ id other. refl }

  pub removed_more : (ids : List (List ℕ)) (x : List ℕ) (old mid new : ById V) → ((q : List ℕ) → new q ≡ cond (bytes_eq x q) None (mid q)) → Removed ids old mid → Removed (ids ++ x ∷ []) old new
  removed_more ids x old mid new removes h = record {
    gone = λ id c. removes id ∙ gone_by (bytes_eq x id) id refl c;
    others = λ id other. removes id ∙ others_by (bytes_eq x id) id refl other;
  }
    where
      gone_by : (b : Bool) → (id : List ℕ) → bytes_eq x id ≡ b → Contains (ids ++ x ∷ []) id → cond b None (mid id) ≡ None
      gone_by true id t c = refl
      gone_by false id t c = elim (Contains-push_cases ids x id c) [
        | inl among ↦ h.gone id among
        | inr same ↦ let e : true ≡ false = sym ((bytes_decides x id).1 same) ∙ t in absurd cc
      ]

      others_by : (b : Bool) → (id : List ℕ) → bytes_eq x id ≡ b → ¬ Contains (ids ++ x ∷ []) id → cond b None (mid id) ≡ old id
      others_by true id t other = absurd (other (subst (Contains (ids ++ x ∷ [])) (same_text x id (sym t)) (Contains-push ids x)))
      others_by false id t other = h.others id (λ c. other (Contains-append_left ids (x ∷ []) id c))

  -- exactly the values to keep are left
  module _ (kept : List ℕ → Bool) (IsKept : List ℕ → Type 0) (old new : ById V) (ids : List (List ℕ)) (agree : (id : List ℕ) → IsSome (old id) → (kept id ≡ true) ↔ IsKept id)
      (garbage : (id : List ℕ) → Contains ids id ↔ (IsSome (old id) × (kept id ≡ false))) (removed : Removed ids old new) where
    abbrev Collects : List ℕ → Type 0
    Collects id = ((new id ≡ old id) ⊎ ((new id ≡ None) × ¬ IsKept id)) × (¬ IsKept id → new id ≡ None)

    collects : (id : List ℕ) → Collects id
    collects id = by_value (old id) refl
      where
        missing : old id ≡ None → Collects id
        missing none =
            let same : new id ≡ old id = removed.others id (λ c. let e : false ≡ true = subst IsSome none ((garbage id).0 c).0 in absurd cc) in
            (inl same, λ _. same ∙ none)

        present : IsSome (old id) → (b : Bool) → kept id ≡ b → Collects id
        present some true k =
            let same : new id ≡ old id = removed.others id (λ c. let e : true ≡ false = sym k ∙ ((garbage id).0 c).1 in absurd cc) in
            (inl same, λ other. absurd (other ((agree id some).0 k)))
        present some false k =
            let none : new id ≡ None = removed.gone id ((garbage id).1 (some, k)) in
            (inr (none, λ is. let e : true ≡ false = sym ((agree id some).1 is) ∙ k in absurd cc), λ _. none)

        by_value : (o : Option V) → old id ≡ o → Collects id
        by_value None at = missing at
        by_value (Some v) at = present (subst IsSome (sym at) refl) (kept id) refl

    pub only_others : RemovesOthers IsKept old new
    only_others id = (collects id).0

    pub no_others : LacksOthers IsKept new
    no_others id = (collects id).1

-- a value that is not removed is unchanged
pub kept_stays : {V : Type 0} (IsKept : List ℕ → Type 0) (old new : ById V) (id : List ℕ) → RemovesOthers IsKept old new → IsKept id → IsSome (old id) → IsSome (new id)
kept_stays IsKept old new id removes is some = elim (removes id) [
  | inl same ↦ subst IsSome (sym same) some
  | inr gone ↦ absurd (gone.1 is)
]

-- ---- garbage collection

module _ {V : Type 0} (marked : BTreeSet (List ℕ)) (times : Times) (time : MillisSinceEpoch) (Reached : List (List ℕ) → List ℕ → Type 0) (heads start ids taken : List (List ℕ)) (old new : ById V)
    (starts : start ≡ heads) (marks : (id : List ℕ) → IsSome (old id) → (has_id marked id ≡ true) ↔ Reached start id)
    (swept : (id : List ℕ) → Contains ids id ↔ (IsSome (old id) × (is_kept marked times time id ≡ false)))
    (same : taken ≡ ids) (gone : (id : List ℕ) → Contains taken id → new id ≡ None) (others : (id : List ℕ) → ¬ Contains taken id → new id ≡ old id) where
  abbrev Stays : List ℕ → Type 0
  Stays id = Reached heads id ⊎ (is_newer times time id ≡ true)

  agree : (id : List ℕ) → IsSome (old id) → (is_kept marked times time id ≡ true) ↔ Stays id
  agree id some = (
    λ h. elim (or_cases (has_id marked id) (is_newer times time id) h) [
      | inl m ↦ inl (subst (λ l. Reached l id) starts ((marks id some).0 m))
      | inr n ↦ inr n
    ],
    λ h. or_from (has_id marked id) (is_newer times time id) (by_cause h),
  )
    where
      by_cause : Stays id → (has_id marked id ≡ true) ⊎ (is_newer times time id ≡ true)
      by_cause (inl r) = inl ((marks id some).1 (subst (λ l. Reached l id) (sym starts) r))
      by_cause (inr n) = inr n

  removed : Removed ids old new
  removed = record {
    gone = λ id c. gone id (subst (λ l. Contains l id) (sym same) c);
    others = λ id other. others id (λ c. other (subst (λ l. Contains l id) same c));
  }

  pub gc_keeps : RemovesOthers Stays old new
  gc_keeps = only_others (is_kept marked times time) Stays old new ids agree swept removed

  pub gc_deletes : LacksOthers Stays new
  gc_deletes = no_others (is_kept marked times time) Stays old new ids agree swept removed

-- the id of a write has its time
pub time_set : {E : Type 0} (r : Result (List ℕ) E) (id : List ℕ) (old new : Times) (time : MillisSinceEpoch) → IfOk r (λ stored. stored ≡ id) → new ≡ put old id time → IfOk r (SetsTime old new)
time_set (Ok stored) id old new time same is = (time, is ∙ ap (λ i. put old i time) (sym same))
time_set (Err e) id old new time same is = tt
