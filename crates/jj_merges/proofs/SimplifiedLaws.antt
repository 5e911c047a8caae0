-- Laws of `simplified_indices`: it is a cancellation, and the identity on a disjoint merge.
use Rattle.std.proofs.Common.{◌≡◌, ◌≢◌, ℕ, ◌+◌, ◌*◌, ◌%◌, ◌<◌, suc, zero, Bool, false, List, [], ◌∷◌, ◌++◌, length, map, Some, refl, ap, subst, arith, get_or, sym, ◌∙◌, IsPermutation, inl, inr, append_assoc}
use Rattle.std.specs.Prelude.{slice_index, slice_get, nat_lt, nat_eq, AllPairs}
use Rattle.std.specs.List.{range_with_len}
use Rattle.std.proofs.lemmas.Bool.{ltb-true}
use Rattle.std.proofs.lemmas.Bool.Decides.{Decides-eqb}
use Rattle.std.proofs.lemmas.List.{get_or_append_left, length-append}
use Rattle.std.proofs.lemmas.Option.{slice_get_cases, get_or_from_slice_get}
use Rattle.std.proofs.lemmas.List.Sorted.{IsPermutation-refl, IsPermutation-sym, IsPermutation-trans, IsPermutation-cons, IsPermutation-append, IsPermutation-append_comm, IsPermutation-append_left, IsPermutation-append_right}
use Rattle.std.proofs.lemmas.List.Sums.{position_or_len_is}
use Rattle.std.proofs.lemmas.List.FromFn.{length-range_with_len, get_or-range_with_len}
use Rattle.std.proofs.lemmas.Map.Keys.{IsDistinct-IsPermutation}
use Rattle.std.proofs.lemmas.Map.Made.{IsDistinct-from_AllPairs, AllPairs-from_IsDistinct}
use Rattle.jj_merges.specs.Merge as merge
use Rattle.jj_merges.specs.Merge.{interleave, HaveSameCounts, IsDisjoint}
use Rattle.jj_merges.specs.Simplify.{SideIndices, cancel_from, equal_at, split_indices, simplified_indices, at_indices}
use Rattle.jj_merges.specs.Cancellation.{CancelsPairs, HasNoEqualPair, IsCancellation}
use Rattle.jj_merges.proofs.Cancellation.{first_equal, equal_options, simplified_sides, by_test, removes_increase}
use Rattle.jj_merges.proofs.Sides.{length-adds, length-removes, slice_get-adds, slice_get-removes}
use Rattle.jj_merges.proofs.SwapRemoveLaws.{get_or-adds, get_or-removes}
use Rattle.jj_merges.proofs.SimplifiedIndices.{bool_eq_iff, at_indices-all, adds-interleave, removes-interleave, simplified_cancels_pairs, simplified_no_equal_pair, length-simplified_sides, all_adds, all_increase}

-- a list is a permutation of its adds followed by its removes
pub IsPermutation-sides : {X : Type 0} (xs : List X) → IsPermutation xs (merge.adds xs ++ merge.removes xs)
IsPermutation-sides [] = IsPermutation-refl []
IsPermutation-sides (x ∷ xs) =
    IsPermutation-cons x xs (merge.removes xs ++ merge.adds xs)
    (IsPermutation-trans xs (merge.adds xs ++ merge.removes xs) (merge.removes xs ++ merge.adds xs) (IsPermutation-sides xs) (IsPermutation-append_comm (merge.adds xs) (merge.removes xs)))

pub IsPermutation-cut : {X : Type 0} (a b c d : List X) → IsPermutation ((a ++ b) ++ (c ++ d)) ((a ++ c) ++ (b ++ d))
IsPermutation-cut a b c d =
    rw (append_assoc a b (c ++ d), append_assoc a c (b ++ d))
    (IsPermutation-append_right a (b ++ (c ++ d)) (c ++ (b ++ d))
    (rw (← append_assoc b c d, ← append_assoc c b d) (IsPermutation-append_left d (b ++ c) (c ++ b) (IsPermutation-append_comm b c))))

-- a prefix
pub AllPairs-prefix : {X : Type 0} (R : X → X → Type 0) (xs ys : List X) → AllPairs R (xs ++ ys) → AllPairs R xs
AllPairs-prefix R xs ys h i j d hij hj =
    rw (get_or_append_left xs ys d i (omega arith), get_or_append_left xs ys d j hj) at (h i j d hij (omega (arith, length-append xs ys)))

-- a permutation of a range has distinct elements
distinct-range : (n : ℕ) → AllPairs (λ p q. p ≢ q) (range_with_len 0 n)
distinct-range n i j d hij hj =
    let size = length-range_with_len 0 n in
    let a = get_or-range_with_len 0 n i d (omega arith) in
    let b = get_or-range_with_len 0 n j d (omega arith) in
    λ e. absurd (omega (arith, a, b, e))

pub distinct-permutation : (n : ℕ) (xs : List ℕ) → IsPermutation (range_with_len 0 n) xs → AllPairs (λ p q. p ≢ q) xs
distinct-permutation n xs h =
    AllPairs-from_IsDistinct {eq = nat_eq} Decides-eqb xs
    (IsDistinct-IsPermutation nat_eq
    (λ x y. bool_eq_iff (nat_eq x y) (nat_eq y x) (λ h. (Decides-eqb y x).1 (sym ((Decides-eqb x y).0 h))) (λ h. (Decides-eqb x y).1 (sym ((Decides-eqb y x).0 h))))
    (range_with_len 0 n) xs h (IsDistinct-from_AllPairs {eq = nat_eq} Decides-eqb (range_with_len 0 n) (distinct-range n)))

module _ {T : Type 0} (eq : T → T → Bool) where
  -- the sides of the interleaved indices
  pub sides-simplified : (m : List T) → length m % 2 ≡ 1 → (merge.adds (simplified_indices eq m) ≡ (simplified_sides eq m).adds) × (merge.removes (simplified_indices eq m) ≡ (simplified_sides eq m).removes)
  unfolding simplified_indices
  sides-simplified m odd = (
    adds-interleave (simplified_sides eq m).adds (simplified_sides eq m).removes (length-simplified_sides eq m odd),
    removes-interleave (simplified_sides eq m).adds (simplified_sides eq m).removes (length-simplified_sides eq m odd),
  )

  -- the simplified and the dropped indices together are a permutation of all indices
  pub indices_permutation : (m : List T) (odd : length m % 2 ≡ 1)
      → IsPermutation (range_with_len 0 (length m)) (simplified_indices eq m ++ (map (λ p. p.0) (simplified_cancels_pairs eq m odd).pairs ++ map (λ p. p.1) (simplified_cancels_pairs eq m odd).pairs))
  indices_permutation m odd =
      let l = simplified_cancels_pairs eq m odd in
      let t = simplified_sides eq m in
      let a = map (λ p. p.0) l.pairs in
      let r = map (λ p. p.1) l.pairs in
      let ps = simplified_indices eq m in
      let s = sides-simplified m odd in
      let whole = range_with_len 0 (length m) in
      let simplified : IsPermutation (t.adds ++ t.removes) ps =
      IsPermutation-sym ps (t.adds ++ t.removes) (subst (λ xs. IsPermutation ps (xs ++ t.removes)) s.0 (subst (λ ys. IsPermutation ps (merge.adds ps ++ ys)) s.1 (IsPermutation-sides ps))) in
      IsPermutation-trans whole (merge.adds whole ++ merge.removes whole) (ps ++ (a ++ r)) (IsPermutation-sides whole)
      (IsPermutation-trans (merge.adds whole ++ merge.removes whole) ((t.adds ++ a) ++ (t.removes ++ r)) (ps ++ (a ++ r))
      (IsPermutation-append (merge.adds whole) (t.adds ++ a) (merge.removes whole) (t.removes ++ r) l.adds l.removes)
      (IsPermutation-trans ((t.adds ++ a) ++ (t.removes ++ r)) ((t.adds ++ t.removes) ++ (a ++ r)) (ps ++ (a ++ r))
      (IsPermutation-cut t.adds a t.removes r)
      (IsPermutation-append_left (a ++ r) (t.adds ++ t.removes) ps simplified)))

  pub is_cancellation : (m : List T) → length m % 2 ≡ 1 → IsCancellation eq m (simplified_indices eq m)
  is_cancellation m odd =
      let s = sides-simplified m odd in
      let t = simplified_sides eq m in
      let e : ◌≡◌ {A = SideIndices} (record { adds = merge.adds (simplified_indices eq m); removes = merge.removes (simplified_indices eq m) }) t = λ i. record { adds = s.0 i; removes = s.1 i } in
      record {
        one_more = rw (s.0, s.1) (length-simplified_sides eq m odd);
        pairs = subst (CancelsPairs (equal_at eq m) (split_indices (length m))) (sym e) (simplified_cancels_pairs eq m odd);
        disjoint = subst (HasNoEqualPair (equal_at eq m)) (sym e) (simplified_no_equal_pair eq m odd);
        distinct = AllPairs-prefix (λ p q. p ≢ q) (simplified_indices eq m) (map (λ p. p.0) (simplified_cancels_pairs eq m odd).pairs ++ map (λ p. p.1) (simplified_cancels_pairs eq m odd).pairs)
            (distinct-permutation (length m) _ (indices_permutation m odd));
        in_order = rw s.1 (λ k hk. removes_increase (equal_at eq m) (length (merge.adds m)) 0 (split_indices (length m)) (all_increase eq (length m)) k (k + 1) (omega arith) hk);
      }

  -- if no add equals a remove, each step skips an add
  pub all_passed : (same : ℕ → ℕ → Bool) (n i : ℕ) (s : SideIndices) → HasNoEqualPair same s → i + n ≡ length s.adds → cancel_from same n i s ≡ s
  all_passed same zero i s none h = refl
  all_passed same (suc n) i s none h =
      let first : first_equal same s i ≡ length s.removes = position_or_len_is (same (slice_index s.adds i)) s.removes (length s.removes) 0 (omega arith) (λ k hk. none i k (omega arith) hk) (λ hk. absurd (omega arith)) in
      by_test (λ t. t ≡ s) (nat_lt (first_equal same s i) (length s.removes)) _ _
      (λ found. absurd (let lt = ltb-true (first_equal same s i) (length s.removes) found in omega (arith, lt, first)))
      (λ passed. all_passed same n (i + 1) s none (omega arith))

  pub no_equal_pair-disjoint : (m : List T) → IsDisjoint eq m → HasNoEqualPair (equal_at eq m) (split_indices (length m))
  no_equal_pair-disjoint m d i j hi hj =
      let size = length-range_with_len 0 (length m) in
      let la = length-adds (range_with_len 0 (length m)) in
      let lr = length-removes (range_with_len 0 (length m)) in
      let ea : slice_index (split_indices (length m)).adds i ≡ i * 2 = get_or-adds (range_with_len 0 (length m)) i 0 ∙ (get_or-range_with_len 0 (length m) (i * 2) 0 (omega arith) ∙ omega arith) in
      let er : slice_index (split_indices (length m)).removes j ≡ j * 2 + 1 = get_or-removes (range_with_len 0 (length m)) j 0 ∙ (get_or-range_with_len 0 (length m) (j * 2 + 1) 0 (omega arith) ∙ omega arith) in
      elim (slice_get_cases m (i * 2)).1 [
        | inl x ↦ elim (slice_get_cases m (j * 2 + 1)).1 [
          | inl y ↦
              let a = get_or_from_slice_get (merge.adds m) i x.0 x.0 (slice_get-adds m i ∙ x.2) in
              let r = get_or_from_slice_get (merge.removes m) j y.0 y.0 (slice_get-removes m j ∙ y.2) in
              let ia : i < length (merge.adds m) = omega (arith, length-adds m) in
              let jr : j < length (merge.removes m) = omega (arith, length-removes m) in
              let no : eq x.0 y.0 ≡ false = sym (ap (λ z. eq z y.0) a) ∙ (sym (ap (eq (get_or (merge.adds m) i x.0)) r) ∙ d i x.0 ia j y.0 jr) in
              ap (λ p. equal_at eq m p (slice_index (split_indices (length m)).removes j)) ea ∙ (ap (equal_at eq m (i * 2)) er
              ∙ (ap (λ o. equal_options eq o (slice_get m (j * 2 + 1))) x.2 ∙ (ap (equal_options eq (Some x.0)) y.2 ∙ no)))
          | inr past ↦ absurd (omega (arith, past.0))
        ]
        | inr past ↦ absurd (omega (arith, past.0))
      ]

  pub interleave-sides : {X : Type 0} (xs : List X) → length xs % 2 ≡ 1 → interleave (merge.adds xs) (merge.removes xs) ≡ xs
  interleave-sides [] odd = absurd (omega arith)
  interleave-sides (x ∷ []) odd = refl
  interleave-sides (x ∷ y ∷ xs) odd = ap (λ zs. x ∷ y ∷ zs) (interleave-sides xs (omega arith))

  -- a disjoint merge keeps all its terms in order
  pub simplified_whole : (m : List T) → length m % 2 ≡ 1 → IsDisjoint eq m → simplified_indices eq m ≡ range_with_len 0 (length m)
  unfolding simplified_indices
  simplified_whole m odd d =
      let e : simplified_sides eq m ≡ split_indices (length m) = all_passed (equal_at eq m) (length (merge.adds m)) 0 (split_indices (length m)) (no_equal_pair-disjoint m d) (all_adds eq m) in
      ap (λ (t : SideIndices). interleave t.adds t.removes) e ∙ interleave-sides (range_with_len 0 (length m)) (omega (arith, length-range_with_len 0 (length m)))

  pub whole_at : (m : List T) → length m % 2 ≡ 1 → IsDisjoint eq m → at_indices m (simplified_indices eq m) ≡ m
  whole_at m odd d = ap (at_indices m) (simplified_whole m odd d) ∙ at_indices-all m

  pub one_term_disjoint : (m : List T) → length m ≡ 1 → IsDisjoint eq m
  one_term_disjoint m one k d hk k' d' hk' = absurd (omega (arith, length-removes m))
