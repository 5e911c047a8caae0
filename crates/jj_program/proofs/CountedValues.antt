-- The table of the distinct values of a merge while its terms are counted.
use Rattle.std.proofs.Common.{◌≡◌, ◌≢◌, ◌∙◌, ◌⊎◌, inl, inr, ℕ, ◌+◌, ◌-◌, ◌<◌, ◌≤◌, Bool, true, false, List, [], ◌∷◌, ◌++◌, cond, length, set, refl, sym, ap, arith, get_or}
use Rattle.std.specs.Prelude.{count_by}
use Rattle.std.proofs.lemmas.Bool.{cases_eq, cases_lt, false≢true}
use Rattle.std.proofs.lemmas.List.{get_or-append_right, get_or_append_left, get_or-set_other, get_or-set_same, get_or_default, length-append, length-set}
use Rattle.std.proofs.lemmas.List.Sums.{count_by-le-length}
use Rattle.jj_merges.specs.Merge as merge
use Rattle.jj_merges.proofs.Sides.{length-adds, length-removes}
use Rattle.jj_program.specs.Lines.{Text}
use Rattle.jj_program.specs.MergeViews.{text_eq}
use Rattle.jj_program.specs.ValueCounts.{AreCountsOf, HasNoValue, IsValueAt}
use Rattle.jj_program.specs.declared.merge_counts.ValueCount.{ValueCount}
use Rattle.jj_program.proofs.SortedSides.{alike, text_laws}

-- no terms yet
pub counts_start : AreCountsOf [] []
counts_start = record {
  added = λ k d within. absurd (omega arith);
  removed = λ k d within. absurd (omega arith);
  known = λ v some. absurd (omega (arith, some));
  distinct = λ j k d j_within. absurd (omega arith);
}

module _ (m : List Text) (cs : List ValueCount) (x : Text) (new : HasNoValue cs x.now) (t : AreCountsOf m cs) where
  abbrev added_count : ValueCount
  added_count = record { text = x; adds = 0; removes = 0 }

  abbrev grown : List ValueCount
  grown = cs ++ added_count ∷ []

  -- a value of the table differs from the new one
  other_value : (k : ℕ) (d : ValueCount) → k < length cs → text_eq (get_or cs k d).text x ≡ false
  other_value k d within = new k d within

  uncounted : (0 < count_by (text_eq x) (merge.adds m) + count_by (text_eq x) (merge.removes m)) → ⊥
  uncounted some =
      let (k, (within, is)) = t.known x some in
      false≢true (sym (new k added_count within) ∙ is added_count)

  none_added : count_by (text_eq x) (merge.adds m) ≡ 0
  none_added = elim (cases_lt 0 (count_by (text_eq x) (merge.adds m))) [ inl some ↦ absurd (uncounted (omega arith)) | inr none ↦ omega arith ]

  none_removed : count_by (text_eq x) (merge.removes m) ≡ 0
  none_removed = elim (cases_lt 0 (count_by (text_eq x) (merge.removes m))) [ inl some ↦ absurd (uncounted (omega arith)) | inr none ↦ omega arith ]

  at_old : (k : ℕ) (d : ValueCount) → k < length cs → get_or grown k d ≡ get_or cs k d
  at_old k d within = get_or_append_left cs (added_count ∷ []) d k within

  at_new : (k : ℕ) (d : ValueCount) → length cs ≡ k → get_or grown k d ≡ added_count
  at_new k d here =
      let none : k - k ≡ 0 = omega arith in
      get_or-append_right cs (added_count ∷ []) k k d here (omega arith) ∙ ap (λ n. get_or (added_count ∷ []) n d) none

  size : length grown ≡ length cs + 1
  size = length-append cs (added_count ∷ [])

  old_or_new : (k : ℕ) → k < length grown → (k < length cs) ⊎ (length cs ≡ k)
  old_or_new k within = elim (cases_lt k (length cs)) [ inl h ↦ inl h | inr h ↦ inr (omega (arith, size, within)) ]

  -- a new value with no counts yet
  pub counts_new : AreCountsOf m grown
  counts_new = record {
    added = λ k d within. elim (old_or_new k within) [
      | inl h ↦ ap (λ (c : ValueCount). count_by (text_eq c.text) (merge.adds m)) (at_old k d h) ∙ t.added k d h ∙ ap (λ (c : ValueCount). c.adds) (sym (at_old k d h))
      | inr h ↦ ap (λ (c : ValueCount). count_by (text_eq c.text) (merge.adds m)) (at_new k d h) ∙ none_added ∙ ap (λ (c : ValueCount). c.adds) (sym (at_new k d h))
    ];
    removed = λ k d within. elim (old_or_new k within) [
      | inl h ↦ ap (λ (c : ValueCount). count_by (text_eq c.text) (merge.removes m)) (at_old k d h) ∙ t.removed k d h ∙ ap (λ (c : ValueCount). c.removes) (sym (at_old k d h))
      | inr h ↦ ap (λ (c : ValueCount). count_by (text_eq c.text) (merge.removes m)) (at_new k d h) ∙ none_removed ∙ ap (λ (c : ValueCount). c.removes) (sym (at_new k d h))
    ];
    known = λ v some.
        let (k, (within, is)) = t.known v some in (
          k,
          (omega (arith, size, within), λ d. ap (λ (c : ValueCount). text_eq c.text v) (at_old k d within) ∙ is d),
        );
    distinct = λ j k d j_within k_within equal. elim (old_or_new j j_within) [
      | inl jh ↦ elim (old_or_new k k_within) [
        | inl kh ↦ t.distinct j k d jh kh
            (ap (λ (c : ValueCount). text_eq c.text (get_or cs k d).text) (sym (at_old j d jh))
            ∙ ap (λ (c : ValueCount). text_eq (get_or grown j d).text c.text) (sym (at_old k d kh)) ∙ equal)
        | inr kh ↦ absurd (false≢true (sym (other_value j d jh)
            ∙ ap (λ (c : ValueCount). text_eq c.text x) (sym (at_old j d jh))
            ∙ ap (λ (c : ValueCount). text_eq (get_or grown j d).text c.text) (sym (at_new k d kh)) ∙ equal))
      ]
      | inr jh ↦ elim (old_or_new k k_within) [
        | inl kh ↦ absurd (false≢true (sym (other_value k d kh) ∙ text_laws.symm (get_or cs k d).text x
            ∙ ap (λ (c : ValueCount). text_eq x c.text) (sym (at_old k d kh))
            ∙ ap (λ (c : ValueCount). text_eq c.text (get_or grown k d).text) (sym (at_new j d jh)) ∙ equal))
        | inr kh ↦ omega (arith, jh, kh)
      ]
    ];
  }

pub none_more : (b : Bool) → let n : ℕ = cond b 0 0 in n ≡ 0
none_more true = refl
none_more false = refl

module _ (m m' : List Text) (cs : List ValueCount) (x : Text) (i : ℕ) (c e : ValueCount) (p q : ℕ)
    (here : IsValueAt cs x.now i) (t : AreCountsOf m cs) (text : c.text ≡ (get_or cs i e).text)
    (more_added : c.adds ≡ (get_or cs i e).adds + p) (more_removed : c.removes ≡ (get_or cs i e).removes + q)
    (adds : (v : Text) → count_by (text_eq v) (merge.adds m') ≡ count_by (text_eq v) (merge.adds m) + cond (text_eq v x) p 0)
    (removes : (v : Text) → count_by (text_eq v) (merge.removes m') ≡ count_by (text_eq v) (merge.removes m) + cond (text_eq v x) q 0) where
  abbrev counted : List ValueCount
  counted = set cs i c

  size_kept : length counted ≡ length cs
  size_kept = length-set cs i c

  at_here : (d : ValueCount) → get_or counted i d ≡ c
  at_here d = get_or-set_same cs i c d here.0

  at_other : (k : ℕ) (d : ValueCount) → k ≢ i → get_or counted k d ≡ get_or cs k d
  at_other k d other = get_or-set_other cs i k c d other

  found : (d : ValueCount) → get_or cs i e ≡ get_or cs i d
  found d = get_or_default cs i e d here.0

  text_kept : (k : ℕ) (d : ValueCount) → (get_or counted k d).text ≡ (get_or cs k d).text
  text_kept k d = elim (cases_eq k i) [
    | inl same ↦ ap (λ k. (get_or counted k d).text) same ∙ ap (λ (c : ValueCount). c.text) (at_here d) ∙ text
        ∙ ap (λ (c : ValueCount). c.text) (found d) ∙ ap (λ k. (get_or cs k d).text) (sym same)
    | inr other ↦ ap (λ (c : ValueCount). c.text) (at_other k d other)
  ]

  -- another value of the table differs from the term
  differs : (k : ℕ) (d : ValueCount) → k < length cs → k ≢ i → text_eq (get_or cs k d).text x ≡ false
  differs k d within other = by_test (text_eq (get_or cs k d).text x) refl
    where
      by_test : (b : Bool) → text_eq (get_or cs k d).text x ≡ b → b ≡ false
      by_test false h = refl
      by_test true h = absurd (other (t.distinct k i d within here.0 (alike (get_or cs k d).text (get_or cs i d).text x (here.1 d) ∙ h)))

  cond_of : (b c : Bool) (n : ℕ) → b ≡ c → let k : ℕ = cond b n 0 in k ≡ cond c n 0
  cond_of b c n h = ap (λ (b : Bool). let k : ℕ = cond b n 0 in k) h

  added_at : (k : ℕ) (d : ValueCount) → k < length cs → count_by (text_eq (get_or cs k d).text) (merge.adds m') ≡ (get_or counted k d).adds
  added_at k d within = elim (cases_eq k i) [
    | inl same ↦
        let now = ap (λ k. (get_or counted k d).adds) same ∙ ap (λ (c : ValueCount). c.adds) (at_here d) in
        let before = ap (λ (c : ValueCount). c.adds) (found d) ∙ ap (λ k. (get_or cs k d).adds) (sym same) in
        let equal = cond_of (text_eq (get_or cs k d).text x) true p (ap (λ k. text_eq (get_or cs k d).text x) same ∙ here.1 d) in
        omega (arith, adds (get_or cs k d).text, t.added k d within, now, before, more_added, equal)
    | inr other ↦
        let now = ap (λ (c : ValueCount). c.adds) (at_other k d other) in
        let none = cond_of (text_eq (get_or cs k d).text x) false p (differs k d within other) in
        omega (arith, adds (get_or cs k d).text, t.added k d within, now, none)
  ]

  removed_at : (k : ℕ) (d : ValueCount) → k < length cs → count_by (text_eq (get_or cs k d).text) (merge.removes m') ≡ (get_or counted k d).removes
  removed_at k d within = elim (cases_eq k i) [
    | inl same ↦
        let now = ap (λ k. (get_or counted k d).removes) same ∙ ap (λ (c : ValueCount). c.removes) (at_here d) in
        let before = ap (λ (c : ValueCount). c.removes) (found d) ∙ ap (λ k. (get_or cs k d).removes) (sym same) in
        let equal = cond_of (text_eq (get_or cs k d).text x) true q (ap (λ k. text_eq (get_or cs k d).text x) same ∙ here.1 d) in
        omega (arith, removes (get_or cs k d).text, t.removed k d within, now, before, more_removed, equal)
    | inr other ↦
        let now = ap (λ (c : ValueCount). c.removes) (at_other k d other) in
        let none = cond_of (text_eq (get_or cs k d).text x) false q (differs k d within other) in
        omega (arith, removes (get_or cs k d).text, t.removed k d within, now, none)
  ]

  known_at : (v : Text) → 0 < count_by (text_eq v) (merge.adds m') + count_by (text_eq v) (merge.removes m') → (b : Bool) → text_eq v x ≡ b
      → (k : ℕ) × IsValueAt cs v.now k
  known_at v some true h = (i, (here.0, λ d. alike (get_or cs i d).text v x h ∙ here.1 d))
  known_at v some false h =
      t.known v (omega (arith, some, adds v, removes v, cond_of (text_eq v x) false p h, cond_of (text_eq v x) false q h))

  -- one more term is counted at the index of its value
  pub counts_more : AreCountsOf m' counted
  counts_more = record {
    added = λ k d within. ap (λ (v : Text). count_by (text_eq v) (merge.adds m')) (text_kept k d) ∙ added_at k d (omega (arith, size_kept, within));
    removed = λ k d within. ap (λ (v : Text). count_by (text_eq v) (merge.removes m')) (text_kept k d) ∙ removed_at k d (omega (arith, size_kept, within));
    known = λ v some.
        let (k, (within, is)) = known_at v some (text_eq v x) refl in
        (k, (omega (arith, size_kept, within), λ d. ap (λ (w : Text). text_eq w v) (text_kept k d) ∙ is d));
    distinct = λ j k d j_within k_within equal.
        t.distinct j k d (omega (arith, size_kept, j_within)) (omega (arith, size_kept, k_within))
        (ap (λ (w : Text). text_eq w (get_or cs k d).text) (sym (text_kept j d))
        ∙ ap (λ (w : Text). text_eq (get_or counted j d).text w) (sym (text_kept k d)) ∙ equal);
  }

-- a count of the first terms of a list fits its type
pub counts_within : (m : List Text) (cs : List ValueCount) (i : ℕ) (d : ValueCount) → i < length cs → AreCountsOf m cs
    → ((get_or cs i d).adds ≤ length m) × ((get_or cs i d).removes ≤ length m)
counts_within m cs i d within t =
    let v = (get_or cs i d).text in (
      omega (arith, t.added i d within, count_by-le-length (text_eq v) (merge.adds m), length-adds m),
      omega (arith, t.removed i d within, count_by-le-length (text_eq v) (merge.removes m), length-removes m),
    )
