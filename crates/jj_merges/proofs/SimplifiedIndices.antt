-- The terms at `simplified_indices` have the merge's signed counts and are disjoint.
use Rattle.std.proofs.Common.{◌≡◌, ℕ, ◌+◌, ◌*◌, ◌%◌, ◌<◌, suc, zero, Bool, true, false, cond, List, [], ◌∷◌, ◌++◌, length, map, Option, Some, None, refl, ap, arith, get_or, sym, ◌∙◌, All, IsPermutation, inl, inr}
use Rattle.std.specs.Prelude.{slice_index, slice_get, count_by, pos, ◌-ℤ◌}
use Rattle.std.specs.List.{filter_map, range_with_len, cons_option}
use Rattle.std.specs.Cmp.{IsPartialEquivalence}
use Rattle.std.proofs.lemmas.Int.{ints}
use Rattle.std.proofs.lemmas.Bool.{false≢true}
use Rattle.std.proofs.lemmas.Option.{slice_get_cases}
use Rattle.std.proofs.lemmas.List.Sorted.{sum_by-IsPermutation, length_permutation, All-permutation}
use Rattle.std.proofs.lemmas.List.Sums.{sum_by-cons, sum_by-append}
use Rattle.std.proofs.lemmas.List.Elements.{All-head, All-tail, All-cons, All-nil}
use Rattle.std.proofs.lemmas.List.{length-append, length-map}
use Rattle.std.proofs.lemmas.List.FromFn.{length-range_with_len, get_or-range_with_len}
use Rattle.jj_merges.specs.Merge as merge
use Rattle.jj_merges.specs.Merge.{interleave, signed_count, HaveSameCounts, IsDisjoint}
use Rattle.jj_merges.specs.Simplify.{SideIndices, equal_at, split_indices, simplified_indices, at_indices}
use Rattle.jj_merges.specs.Cancellation.{CancelsPairs, HasNoEqualPair}
use Rattle.jj_merges.proofs.Cancellation.{equal_options, simplified_sides, cancels_pairs, no_equal_pair, All-prefix, IsIncreasing}
use Rattle.jj_merges.proofs.Sides.{length-adds, length-removes}
use Rattle.jj_merges.proofs.SwapRemoveLaws.{get_or-removes}

-- a test that respects `same` passes as many adds as removes of the dropped pairs
pub count-pairs : (same : ℕ → ℕ → Bool) (q : ℕ → Bool) → ((a r : ℕ) → same a r ≡ true → q a ≡ q r) → (pairs : List (ℕ × ℕ)) → All (λ p. same p.0 p.1 ≡ true) pairs → count_by q (map (λ p. p.0) pairs) ≡ count_by q (map (λ p. p.1) pairs)
count-pairs same q h [] e = refl
count-pairs same q h (p ∷ ps) e =
    let f : ℕ → ℕ = λ x. cond (q x) 1 0 in
    sum_by-cons f p.0 (map (λ p. p.0) ps)
    ∙ (ap (λ b. cond b 1 0 + count_by q (map (λ p. p.0) ps)) (h p.0 p.1 (All-head (λ p. same p.0 p.1 ≡ true) p ps e))
    ∙ (ap (λ n. f p.1 + n) (count-pairs same q h ps (All-tail (λ p. same p.0 p.1 ≡ true) p ps e)) ∙ sym (sum_by-cons f p.1 (map (λ p. p.1) ps))))

pub count-dropped : (same : ℕ → ℕ → Bool) (q : ℕ → Bool) → ((a r : ℕ) → same a r ≡ true → q a ≡ q r) → (s t : SideIndices) → CancelsPairs same s t → count_by q s.adds + count_by q t.removes ≡ count_by q t.adds + count_by q s.removes
count-dropped same q h s t l =
    let f : ℕ → ℕ = λ x. cond (q x) 1 0 in
    let a1 = sum_by-IsPermutation f s.adds (t.adds ++ map (λ p. p.0) l.pairs) l.adds in
    let a2 = sum_by-append f t.adds (map (λ p. p.0) l.pairs) in
    let r1 = sum_by-IsPermutation f s.removes (t.removes ++ map (λ p. p.1) l.pairs) l.removes in
    let r2 = sum_by-append f t.removes (map (λ p. p.1) l.pairs) in
    let e = count-pairs same q h l.pairs l.equal in
    omega (arith, a1, a2, r1, r2, e)

-- `interleave` and `adds`, `removes` are inverse
pub adds-interleave : {A : Type 0} (xs ys : List A) → length xs ≡ length ys + 1 → merge.adds (interleave xs ys) ≡ xs
adds-interleave [] ys e = absurd (omega arith)
adds-interleave (x ∷ []) [] e = refl
adds-interleave (x ∷ x' ∷ xs) [] e = absurd (omega arith)
adds-interleave (x ∷ xs) (y ∷ ys) e = ap (λ zs. x ∷ zs) (adds-interleave xs ys (omega arith))

pub removes-interleave : {A : Type 0} (xs ys : List A) → length xs ≡ length ys + 1 → merge.removes (interleave xs ys) ≡ ys
removes-interleave [] ys e = absurd (omega arith)
removes-interleave (x ∷ []) [] e = refl
removes-interleave (x ∷ x' ∷ xs) [] e = absurd (omega arith)
removes-interleave (x ∷ xs) (y ∷ ys) e = ap (λ zs. y ∷ zs) (removes-interleave xs ys (omega arith))

pub bool_eq_iff : (a b : Bool) → (a ≡ true → b ≡ true) → (b ≡ true → a ≡ true) → a ≡ b
bool_eq_iff true b f g = sym (f refl)
bool_eq_iff false true f g = g refl
bool_eq_iff false false f g = refl

pub signed_counts_equal : (a b c d : ℕ) → a + d ≡ c + b → pos a -ℤ pos b ≡ pos c -ℤ pos d
signed_counts_equal a b c d e = omega (arith, ints)

-- looking up all indices in order
pub filter_map-get : {A : Type 0} (f : ℕ → Option A) (xs : List A) (a : ℕ) → ((k : ℕ) → k < length xs → f (a + k) ≡ slice_get xs k) → filter_map f (range_with_len a (length xs)) ≡ xs
filter_map-get f [] a h = refl
filter_map-get f (x ∷ xs) a h =
    let here : f a ≡ Some x = ap f (omega arith) ∙ h 0 (omega arith) in
    rw here (ap (λ ys. x ∷ ys) (filter_map-get f xs (a + 1) (λ k hk. ap f (omega arith) ∙ h (suc k) (omega arith))))

pub at_indices-all : {A : Type 0} (xs : List A) → at_indices xs (range_with_len 0 (length xs)) ≡ xs
at_indices-all xs = filter_map-get (slice_get xs) xs 0 (λ k hk. ap (slice_get xs) (omega arith))

-- the index is in range
abbrev HasTerm : {A : Type 0} → (ℕ → Option A) → ℕ → Type 0
HasTerm {A} f p = (x : A) × (f p ≡ Some x)

abbrev pub AllHaveTerms : {A : Type 0} → (ℕ → Option A) → List ℕ → Type 0
AllHaveTerms f ps = All (HasTerm f) ps

mutual
  pub adds-filter_map : {A : Type 0} (f : ℕ → Option A) (ps : List ℕ) → AllHaveTerms f ps → merge.adds (filter_map f ps) ≡ filter_map f (merge.adds ps)
  adds-filter_map f [] h = refl
  adds-filter_map f (p ∷ ps) h =
      let here = All-head (HasTerm f) p ps h in
      rw here.1 (ap (λ ys. here.0 ∷ ys) (removes-filter_map f ps (All-tail (HasTerm f) p ps h)))

  pub removes-filter_map : {A : Type 0} (f : ℕ → Option A) (ps : List ℕ) → AllHaveTerms f ps → merge.removes (filter_map f ps) ≡ filter_map f (merge.removes ps)
  removes-filter_map f [] h = refl
  removes-filter_map f (p ∷ ps) h =
      let here = All-head (HasTerm f) p ps h in
      rw here.1 (adds-filter_map f ps (All-tail (HasTerm f) p ps h))

pub All-interleave : {X : Type 0} (P : X → Type 0) (xs ys : List X) → All P xs → All P ys → All P (interleave xs ys)
All-interleave P [] ys a b = b
All-interleave P (x ∷ xs) [] a b = a
All-interleave P (x ∷ xs) (y ∷ ys) a b =
    All-cons P x (y ∷ interleave xs ys) (All-head P x xs a)
    (All-cons P y (interleave xs ys) (All-head P y ys b) (All-interleave P xs ys (All-tail P x xs a) (All-tail P y ys b)))

mutual
  pub All-adds : {X : Type 0} (P : X → Type 0) (xs : List X) → All P xs → All P (merge.adds xs)
  All-adds P [] h = All-nil P
  All-adds P (x ∷ xs) h = All-cons P x (merge.removes xs) (All-head P x xs h) (All-removes P xs (All-tail P x xs h))

  pub All-removes : {X : Type 0} (P : X → Type 0) (xs : List X) → All P xs → All P (merge.removes xs)
  All-removes P [] h = All-nil P
  All-removes P (x ∷ xs) h = All-adds P xs (All-tail P x xs h)

pub length-filter_map : {A : Type 0} (f : ℕ → Option A) (ps : List ℕ) → AllHaveTerms f ps → length (filter_map f ps) ≡ length ps
length-filter_map f [] h = refl
length-filter_map f (p ∷ ps) h =
    let here = All-head (HasTerm f) p ps h in
    rw here.1 (ap suc (length-filter_map f ps (All-tail (HasTerm f) p ps h)))

-- the k-th looked-up term
pub get_or-filter_map : {A : Type 0} (f : ℕ → Option A) (ps : List ℕ) → AllHaveTerms f ps → (k : ℕ) (d : A) → k < length ps → f (slice_index ps k) ≡ Some (get_or (filter_map f ps) k d)
get_or-filter_map f [] h k d hk = absurd (omega arith)
get_or-filter_map f (p ∷ ps) h zero d hk =
    let here = All-head (HasTerm f) p ps h in rw here.1 refl
get_or-filter_map f (p ∷ ps) h (suc k) d hk =
    let here = All-head (HasTerm f) p ps h in
    rw here.1 (get_or-filter_map f ps (All-tail (HasTerm f) p ps h) k d (omega arith))

pub slice_get-filter_map : {A : Type 0} (f : ℕ → Option A) (ps : List ℕ) → AllHaveTerms f ps → (k : ℕ) → k < length ps → slice_get (filter_map f ps) k ≡ f (slice_index ps k)
slice_get-filter_map f [] h k hk = absurd (omega arith)
slice_get-filter_map f (p ∷ ps) h zero hk = let here = All-head (HasTerm f) p ps h in rw here.1 refl
slice_get-filter_map f (p ∷ ps) h (suc k) hk =
    let here = All-head (HasTerm f) p ps h in
    rw here.1 (slice_get-filter_map f ps (All-tail (HasTerm f) p ps h) k (omega arith))

-- all indices of a list are in range
pub all_have_terms : {A : Type 0} (m : List A) → AllHaveTerms (slice_get m) (range_with_len 0 (length m))
all_have_terms m k d hk =
    let within : k < length m = omega (arith, length-range_with_len 0 (length m)) in
    let e = get_or-range_with_len 0 (length m) k d within in
    elim ((slice_get_cases m k).1) [
      | inl c ↦ (c.0, ap (slice_get m) (e ∙ omega arith) ∙ c.2)
      | inr c ↦ absurd (omega (arith, c.0))
    ]

-- a part of them is, too
all_have_terms-part : {A : Type 0} (f : ℕ → Option A) (all left out : List ℕ) → IsPermutation all (left ++ out) → AllHaveTerms f all → AllHaveTerms f left
all_have_terms-part f all left out e h = All-prefix (HasTerm f) left out (All-permutation (HasTerm f) all (left ++ out) e h)

module _ {T : Type 0} (eq : T → T → Bool) where
  -- the term at this index equals v
  abbrev pub is_value_at : List T → T → ℕ → Bool
  is_value_at m v p = equal_options eq (Some v) (slice_get m p)

  pub count-at_indices : (m : List T) (v : T) (ps : List ℕ) → count_by (eq v) (at_indices m ps) ≡ count_by (is_value_at m v) ps
  count-at_indices m v [] = refl
  count-at_indices m v (p ∷ ps) =
      let q : ℕ → ℕ = λ x. cond (is_value_at m v x) 1 0 in
      let rest = count-at_indices m v ps in
      elim (slice_get m p) as (λ o. slice_get m p ≡ o → count_by (eq v) (cons_option o (at_indices m ps)) ≡ count_by (is_value_at m v) (p ∷ ps)) [
        | None ↦ λ e.
            let none : q p ≡ 0 = ap (λ o. cond (equal_options eq (Some v) o) 1 0) e in
            omega (arith, rest, sum_by-cons q p ps, none)
        | Some x ↦ λ e.
            let f : T → ℕ = λ y. cond (eq v y) 1 0 in
            let one : q p ≡ f x = ap (λ o. cond (equal_options eq (Some v) o) 1 0) e in
            omega (arith, rest, sum_by-cons q p ps, sum_by-cons f x (at_indices m ps), one)
      ] refl

  -- equal terms have equal counts
  equal_options-same : IsPartialEquivalence eq → (v : T) (a b : Option T) → equal_options eq a b ≡ true → equal_options eq (Some v) a ≡ equal_options eq (Some v) b
  equal_options-same laws v (Some x) (Some y) h = bool_eq_iff (eq v x) (eq v y) (λ p. laws.trans v x y p h) (λ p. laws.trans v y x p (laws.symm y x ∙ h))
  equal_options-same laws v (Some x) None h = absurd (false≢true h)
  equal_options-same laws v None b h = absurd (false≢true h)

  pub is_value_at-same : IsPartialEquivalence eq → (m : List T) (v : T) (p r : ℕ) → equal_at eq m p r ≡ true → is_value_at m v p ≡ is_value_at m v r
  is_value_at-same laws m v p r h = equal_options-same laws v (slice_get m p) (slice_get m r) h

  -- there is one add more than removes
  pub length-split_indices : (n : ℕ) → n % 2 ≡ 1 → length (split_indices n).adds ≡ length (split_indices n).removes + 1
  length-split_indices n odd = omega (arith, length-adds (range_with_len 0 n), length-removes (range_with_len 0 n), length-range_with_len 0 n)

  pub all_adds : (m : List T) → 0 + length (merge.adds m) ≡ length (split_indices (length m)).adds
  all_adds m = omega (arith, length-adds m, length-adds (range_with_len 0 (length m)), length-range_with_len 0 (length m))

  -- indices of removes are increasing
  pub all_increase : (n : ℕ) → IsIncreasing (split_indices n).removes
  all_increase n j l hj hl =
      let long = length-removes (range_with_len 0 n) in
      let size = length-range_with_len 0 n in
      rw (get_or-removes (range_with_len 0 n) j 0, get_or-removes (range_with_len 0 n) l 0)
      (omega (arith, get_or-range_with_len 0 n (j * 2 + 1) 0 (omega arith), get_or-range_with_len 0 n (l * 2 + 1) 0 (omega arith)))

  pub simplified_cancels_pairs : (m : List T) → length m % 2 ≡ 1 → CancelsPairs (equal_at eq m) (split_indices (length m)) (simplified_sides eq m)
  simplified_cancels_pairs m odd =
      cancels_pairs (equal_at eq m) (length (merge.adds m)) 0 (split_indices (length m)) (all_adds m) (length-split_indices (length m) odd) (all_increase (length m))

  pub simplified_no_equal_pair : (m : List T) → length m % 2 ≡ 1 → HasNoEqualPair (equal_at eq m) (simplified_sides eq m)
  simplified_no_equal_pair m odd =
      no_equal_pair (equal_at eq m) (length (merge.adds m)) 0 (split_indices (length m)) (all_adds m) (length-split_indices (length m) odd)
      (λ j l hj. absurd (omega arith))

  pub length-simplified_sides : (m : List T) → length m % 2 ≡ 1 → length (simplified_sides eq m).adds ≡ length (simplified_sides eq m).removes + 1
  length-simplified_sides m odd =
      let s = split_indices (length m) in
      let t = simplified_sides eq m in
      let l = simplified_cancels_pairs m odd in
      let a = length_permutation s.adds (t.adds ++ map (λ p. p.0) l.pairs) l.adds in
      let r = length_permutation s.removes (t.removes ++ map (λ p. p.1) l.pairs) l.removes in
      omega (arith, length-split_indices (length m) odd, a, r, length-append t.adds (map (λ p. p.0) l.pairs), length-append t.removes (map (λ p. p.1) l.pairs), length-map l.pairs (λ p. p.0), length-map l.pairs (λ p. p.1))

  pub adds_have_terms : (m : List T) → length m % 2 ≡ 1 → AllHaveTerms (slice_get m) (simplified_sides eq m).adds
  adds_have_terms m odd =
      let l = simplified_cancels_pairs m odd in
      all_have_terms-part (slice_get m) (split_indices (length m)).adds (simplified_sides eq m).adds (map (λ p. p.0) l.pairs) l.adds (All-adds (HasTerm (slice_get m)) _ (all_have_terms m))

  pub removes_have_terms : (m : List T) → length m % 2 ≡ 1 → AllHaveTerms (slice_get m) (simplified_sides eq m).removes
  removes_have_terms m odd =
      let l = simplified_cancels_pairs m odd in
      all_have_terms-part (slice_get m) (split_indices (length m)).removes (simplified_sides eq m).removes (map (λ p. p.1) l.pairs) l.removes (All-removes (HasTerm (slice_get m)) _ (all_have_terms m))

  pub simplified_have_terms : (m : List T) → length m % 2 ≡ 1 → AllHaveTerms (slice_get m) (simplified_indices eq m)
  unfolding simplified_indices
  simplified_have_terms m odd = All-interleave (HasTerm (slice_get m)) (simplified_sides eq m).adds (simplified_sides eq m).removes (adds_have_terms m odd) (removes_have_terms m odd)

  -- sides of the simplified terms
  pub adds-simplified : (m : List T) → length m % 2 ≡ 1 → merge.adds (at_indices m (simplified_indices eq m)) ≡ at_indices m (simplified_sides eq m).adds
  unfolding simplified_indices
  adds-simplified m odd = adds-filter_map (slice_get m) (simplified_indices eq m) (simplified_have_terms m odd) ∙ ap (at_indices m) (adds-interleave (simplified_sides eq m).adds (simplified_sides eq m).removes (length-simplified_sides m odd))

  pub removes-simplified : (m : List T) → length m % 2 ≡ 1 → merge.removes (at_indices m (simplified_indices eq m)) ≡ at_indices m (simplified_sides eq m).removes
  unfolding simplified_indices
  removes-simplified m odd = removes-filter_map (slice_get m) (simplified_indices eq m) (simplified_have_terms m odd) ∙ ap (at_indices m) (removes-interleave (simplified_sides eq m).adds (simplified_sides eq m).removes (length-simplified_sides m odd))

  pub adds-all : (m : List T) → merge.adds m ≡ at_indices m (split_indices (length m)).adds
  adds-all m = ap merge.adds (sym (at_indices-all m)) ∙ adds-filter_map (slice_get m) (range_with_len 0 (length m)) (all_have_terms m)

  pub removes-all : (m : List T) → merge.removes m ≡ at_indices m (split_indices (length m)).removes
  removes-all m = ap merge.removes (sym (at_indices-all m)) ∙ removes-filter_map (slice_get m) (range_with_len 0 (length m)) (all_have_terms m)

  pub HaveSameCounts-simplified : IsPartialEquivalence eq → (m : List T) → length m % 2 ≡ 1 → HaveSameCounts eq (at_indices m (simplified_indices eq m)) m
  HaveSameCounts-simplified laws m odd v =
      let q : ℕ → Bool = is_value_at m v in
      let s = split_indices (length m) in
      let t = simplified_sides eq m in
      let a = ap (count_by (eq v)) (adds-simplified m odd) ∙ count-at_indices m v t.adds in
      let b = ap (count_by (eq v)) (removes-simplified m odd) ∙ count-at_indices m v t.removes in
      let c = ap (count_by (eq v)) (adds-all m) ∙ count-at_indices m v s.adds in
      let d = ap (count_by (eq v)) (removes-all m) ∙ count-at_indices m v s.removes in
      let e = count-dropped (equal_at eq m) q (is_value_at-same laws m v) s t (simplified_cancels_pairs m odd) in
      signed_counts_equal (count_by (eq v) (merge.adds (at_indices m (simplified_indices eq m)))) (count_by (eq v) (merge.removes (at_indices m (simplified_indices eq m)))) (count_by (eq v) (merge.adds m)) (count_by (eq v) (merge.removes m))
      (omega (arith, a, b, c, d, e))

  pub IsDisjoint-simplified : (m : List T) → length m % 2 ≡ 1 → IsDisjoint eq (at_indices m (simplified_indices eq m))
  IsDisjoint-simplified m odd =
      rw (adds-simplified m odd, removes-simplified m odd)
      (λ k d hk k' d' hk'.
      let t = simplified_sides eq m in
      let in_adds : k < length t.adds = omega (arith, length-filter_map (slice_get m) t.adds (adds_have_terms m odd)) in
      let in_removes : k' < length t.removes = omega (arith, length-filter_map (slice_get m) t.removes (removes_have_terms m odd)) in
      let a = get_or-filter_map (slice_get m) t.adds (adds_have_terms m odd) k d in_adds in
      let r = get_or-filter_map (slice_get m) t.removes (removes_have_terms m odd) k' d' in_removes in
      rw (a, r) at (simplified_no_equal_pair m odd k k' in_adds in_removes))
