-- Lists that are termwise equal have the same counts, and are both disjoint or neither; clones of
-- simplified terms.
use Rattle.std.proofs.Common.{◌≡◌, ℕ, ◌+◌, ◌%◌, ◌<◌, Bool, true, cond, List, [], ◌∷◌, length, All, refl, ap, arith, sym, ◌∙◌, get_or, zero, suc, Some}
use Rattle.std.specs.Prelude.{count_by, slice_get, slice_index, pos, ◌-ℤ◌}
use Rattle.std.specs.List.{AllZip}
use Rattle.std.specs.Cmp.{IsPartialEquivalence}
use Rattle.std.proofs.lemmas.List.Elements.{AllZip-get_or, length_all_zip}
use Rattle.std.proofs.lemmas.List.Sums.{sum_by-cons}
use Rattle.std.proofs.lemmas.Option.{slice_get_within}
use Rattle.jj_merges.specs.Merge as merge
use Rattle.jj_merges.specs.Merge.{AreTermwiseEqual, HaveSameCounts, IsDisjoint, signed_count, interleave}
use Rattle.jj_merges.specs.Simplify.{simplified_indices, at_indices}
use Rattle.jj_merges.proofs.Cancellation.{simplified_sides}
use Rattle.jj_merges.proofs.SimplifiedIndices.{bool_eq_iff, simplified_have_terms, slice_get-filter_map, length-simplified_sides, length-filter_map, HaveSameCounts-simplified, IsDisjoint-simplified}

pub AllZip-weaker : {X : Type 0} (R S : X → X → Type 0) → ((x y : X) → R x y → S x y) → (xs ys : List X) → AllZip R xs ys → AllZip S xs ys
AllZip-weaker R S f [] [] h = h
AllZip-weaker R S f [] (y ∷ ys) h = h
AllZip-weaker R S f (x ∷ xs) [] h = h
AllZip-weaker R S f (x ∷ xs) (y ∷ ys) h = (f x y h.0, AllZip-weaker R S f xs ys h.1)

mutual
  pub AllZip-adds : {X Y : Type 0} (R : X → Y → Type 0) (xs : List X) (ys : List Y) → AllZip R xs ys → AllZip R (merge.adds xs) (merge.adds ys)
  AllZip-adds R [] [] h = h
  AllZip-adds R [] (y ∷ ys) h = absurd h
  AllZip-adds R (x ∷ xs) [] h = absurd h
  AllZip-adds R (x ∷ xs) (y ∷ ys) h = (h.0, AllZip-removes R xs ys h.1)

  pub AllZip-removes : {X Y : Type 0} (R : X → Y → Type 0) (xs : List X) (ys : List Y) → AllZip R xs ys → AllZip R (merge.removes xs) (merge.removes ys)
  AllZip-removes R [] [] h = h
  AllZip-removes R [] (y ∷ ys) h = absurd h
  AllZip-removes R (x ∷ xs) [] h = absurd h
  AllZip-removes R (x ∷ xs) (y ∷ ys) h = AllZip-adds R xs ys h.1

pub length-interleave : {A : Type 0} (xs ys : List A) → length (interleave xs ys) ≡ length xs + length ys
length-interleave [] ys = omega arith
length-interleave (x ∷ xs) [] = omega arith
length-interleave (x ∷ xs) (y ∷ ys) = omega (arith, length-interleave xs ys)

module _ {T : Type 0} (eq : T → T → Bool) where
  pub equal_alike : IsPartialEquivalence eq → (v x y : T) → eq x y ≡ true → eq v x ≡ eq v y
  equal_alike laws v x y h = bool_eq_iff (eq v x) (eq v y) (λ p. laws.trans v x y p h) (λ p. laws.trans v y x p (laws.symm y x ∙ h))

  pub count-AreTermwiseEqual : IsPartialEquivalence eq → (v : T) (xs ys : List T) → AreTermwiseEqual eq xs ys → count_by (eq v) xs ≡ count_by (eq v) ys
  count-AreTermwiseEqual laws v [] [] h = refl
  count-AreTermwiseEqual laws v [] (y ∷ ys) h = absurd h
  count-AreTermwiseEqual laws v (x ∷ xs) [] h = absurd h
  count-AreTermwiseEqual laws v (x ∷ xs) (y ∷ ys) h =
      let f : T → ℕ = λ z. cond (eq v z) 1 0 in
      let here : f x ≡ f y = ap (λ b. cond b 1 0) (equal_alike laws v x y h.0) in
      omega (arith, sum_by-cons f x xs, sum_by-cons f y ys, here, count-AreTermwiseEqual laws v xs ys h.1)

  pub HaveSameCounts-AreTermwiseEqual : IsPartialEquivalence eq → (xs ys m : List T) → AreTermwiseEqual eq xs ys → HaveSameCounts eq xs m → HaveSameCounts eq ys m
  HaveSameCounts-AreTermwiseEqual laws xs ys m h c v =
      let a = count-AreTermwiseEqual laws v (merge.adds xs) (merge.adds ys) (AllZip-adds (λ x y. eq x y ≡ true) xs ys h) in
      let r = count-AreTermwiseEqual laws v (merge.removes xs) (merge.removes ys) (AllZip-removes (λ x y. eq x y ≡ true) xs ys h) in
      sym (ap (λ n. pos n -ℤ pos (count_by (eq v) (merge.removes xs))) a ∙ ap (λ n. pos (count_by (eq v) (merge.adds ys)) -ℤ pos n) r) ∙ c v

  pub IsDisjoint-AreTermwiseEqual : IsPartialEquivalence eq → (xs ys : List T) → AreTermwiseEqual eq xs ys → IsDisjoint eq xs → IsDisjoint eq ys
  IsDisjoint-AreTermwiseEqual laws xs ys h d k e hk k' e' hk' =
      let ha = AllZip-adds (λ x y. eq x y ≡ true) xs ys h in
      let hr = AllZip-removes (λ x y. eq x y ≡ true) xs ys h in
      let ka : k < length (merge.adds xs) = omega (arith, length_all_zip (λ x y. eq x y ≡ true) (merge.adds xs) (merge.adds ys) ha) in
      let kr : k' < length (merge.removes xs) = omega (arith, length_all_zip (λ x y. eq x y ≡ true) (merge.removes xs) (merge.removes ys) hr) in
      let a = AllZip-get_or (λ x y. eq x y ≡ true) (merge.adds xs) (merge.adds ys) k e e ha ka in
      let r = AllZip-get_or (λ x y. eq x y ≡ true) (merge.removes xs) (merge.removes ys) k' e' e' hr kr in
      sym (equal_alike laws (get_or (merge.adds ys) k e) (get_or (merge.removes xs) k' e') (get_or (merge.removes ys) k' e') r)
      ∙ (laws.symm (get_or (merge.adds ys) k e) (get_or (merge.removes xs) k' e')
      ∙ (sym (equal_alike laws (get_or (merge.removes xs) k' e') (get_or (merge.adds xs) k e) (get_or (merge.adds ys) k e) a)
      ∙ (laws.symm (get_or (merge.removes xs) k' e') (get_or (merge.adds xs) k e) ∙ d k e ka k' e' kr)))

  -- all indices are in range
  pub simplified_in_range : (m : List T) → length m % 2 ≡ 1 → All (λ p. p < length m) (simplified_indices eq m)
  simplified_in_range m odd k d hk = let f = simplified_have_terms eq m odd k d hk in slice_get_within m _ f.0 f.1

  length-simplified_is : (m : List T) → length (simplified_indices eq m) ≡ length (interleave (simplified_sides eq m).adds (simplified_sides eq m).removes)
  unfolding simplified_indices
  length-simplified_is m = refl

  pub odd-simplified_indices : (m : List T) → length m % 2 ≡ 1 → length (simplified_indices eq m) % 2 ≡ 1
  odd-simplified_indices m odd =
      omega (arith, length-simplified_is m, length-interleave (simplified_sides eq m).adds (simplified_sides eq m).removes, length-simplified_sides eq m odd)

  pub length-simplified_indices : (m : List T) → length m % 2 ≡ 1 → length (at_indices m (simplified_indices eq m)) % 2 ≡ 1
  length-simplified_indices m odd =
      omega (arith, length-filter_map (slice_get m) (simplified_indices eq m) (simplified_have_terms eq m odd), length-simplified_is m, length-interleave (simplified_sides eq m).adds (simplified_sides eq m).removes, length-simplified_sides eq m odd)

  -- clauses `counts` and `disjoint` of `simplify`, if clones equal their sources
  pub simplify_counts : IsPartialEquivalence eq → (C : T → T → Type 0) → ((x y : T) → C x y → eq x y ≡ true) → (m xs : List T) → length m % 2 ≡ 1 → AllZip C (at_indices m (simplified_indices eq m)) xs → HaveSameCounts eq xs m
  simplify_counts laws C f m xs odd h =
      HaveSameCounts-AreTermwiseEqual laws (at_indices m (simplified_indices eq m)) xs m (AllZip-weaker C (λ x y. eq x y ≡ true) f (at_indices m (simplified_indices eq m)) xs h) (HaveSameCounts-simplified eq laws m odd)

  pub simplify_disjoint : IsPartialEquivalence eq → (C : T → T → Type 0) → ((x y : T) → C x y → eq x y ≡ true) → (m xs : List T) → length m % 2 ≡ 1 → AllZip C (at_indices m (simplified_indices eq m)) xs → IsDisjoint eq xs
  simplify_disjoint laws C f m xs odd h =
      IsDisjoint-AreTermwiseEqual laws (at_indices m (simplified_indices eq m)) xs (AllZip-weaker C (λ x y. eq x y ≡ true) f (at_indices m (simplified_indices eq m)) xs h) (IsDisjoint-simplified eq m odd)

  pub length-at_indices : (m : List T) → length m % 2 ≡ 1 → length (at_indices m (simplified_indices eq m)) ≡ length (simplified_indices eq m)
  length-at_indices m odd = length-filter_map (slice_get m) (simplified_indices eq m) (simplified_have_terms eq m odd)

  in_range_term : {A : Type 0} (xs : List A) (p : ℕ) → p < length xs → (x : A) × (slice_get xs p ≡ Some x)
  in_range_term [] p h = absurd (omega arith)
  in_range_term (x ∷ xs) zero h = (x, refl)
  in_range_term (x ∷ xs) (suc p) h = in_range_term xs p (omega arith)

  -- one label for each term: the k-th remaining term and the k-th remaining label have the same index
  pub aligned : {L : Type 0} (m : List T) (labels : List L) → length m % 2 ≡ 1 → length labels ≡ length m
      → (k : ℕ) → k < length (at_indices m (simplified_indices eq m)) → (j : ℕ)
      × (slice_get (at_indices m (simplified_indices eq m)) k ≡ slice_get m j)
      × (slice_get (at_indices labels (simplified_indices eq m)) k ≡ slice_get labels j)
  aligned m labels odd same k hk =
      let indices = simplified_indices eq m in
      let within : k < length indices = omega (arith, length-at_indices m odd) in (
        slice_index indices k,
        slice_get-filter_map (slice_get m) indices (simplified_have_terms eq m odd) k within,
        slice_get-filter_map (slice_get labels) indices
            (λ i d hi. in_range_term labels (get_or indices i d) (let h = simplified_in_range m odd i d hi in omega (arith, h, same))) k within,
      )
