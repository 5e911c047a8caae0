-- `cancel_from` drops pairs of equal terms, and leaves no add that equals a remove.
use Rattle.std.proofs.Common.{◌≡◌, ℕ, ◌+◌, ◌<◌, ◌≤◌, suc, zero, Bool, true, false, cond, List, [], ◌∷◌, ◌++◌, length, map, Option, refl, ap, arith, get_or, sym, ◌∙◌, All, IsPermutation, remove, swap, inl, inr}
use Rattle.std.proofs.lemmas.List.{get_or_default, append-nil}
use Rattle.std.specs.Prelude.{slice_index, nat_lt, not}
use Rattle.std.proofs.lemmas.Bool.{ltb-true, ltb-false, not-false, not-true, cases_lt, cases_eq, false≢true}
use Rattle.std.proofs.lemmas.List.Sorted.{IsPermutation-refl, IsPermutation-sym, IsPermutation-trans, IsPermutation-cons, IsPermutation-middle, IsPermutation-swap, IsPermutation-remove, All-permutation}
use Rattle.std.proofs.lemmas.List.Sums.{prefix_len_stops, prefix_len_passes}
use Rattle.std.proofs.lemmas.List.Edits.{length-remove, length-swap, swapped_from_swap, get_or-remove_below, get_or-remove_above}
use Rattle.std.proofs.lemmas.List.Elements.{All-nil, All-cons, All-take}
use Rattle.std.proofs.Math.Seq.{take-append_seam}
use Rattle.std.specs.Option.{option_map_or}
use Rattle.std.specs.List.{position_or_len}
use Rattle.jj_merges.specs.Merge as merge
use Rattle.jj_merges.specs.Simplify.{equal_at, split_indices, SideIndices, cancel_pair, cancel_from}
use Rattle.jj_merges.specs.Cancellation.{CancelsPairs, HasNoEqualPair}

-- the position of the first remove that equals the i-th add, or the number of removes
abbrev pub first_equal : (ℕ → ℕ → Bool) → SideIndices → ℕ → ℕ
first_equal same s i = position_or_len (same (slice_index s.adds i)) s.removes

-- both options have values, and these are equal
abbrev pub equal_options : {T : Type 0} → (T → T → Bool) → Option T → Option T → Bool
equal_options eq o p = option_map_or (λ x. option_map_or (eq x) p false) o false

-- the indices that `simplify` keeps, before they are interleaved
abbrev pub simplified_sides : {T : Type 0} → (T → T → Bool) → List T → SideIndices
simplified_sides eq m = cancel_from (equal_at eq m) (length (merge.adds m)) 0 (split_indices (length m))

-- case analysis on a condition
pub by_test : {A : Type 0} (P : A → Type 0) (b : Bool) (x y : A) → (b ≡ true → P x) → (b ≡ false → P y) → P (cond b x y)
by_test P true x y f g = f refl
by_test P false x y f g = g refl

-- removing an element after a swap
pub IsPermutation-swap-remove : (xs : List ℕ) (i j : ℕ) → i < length xs → j < length xs → IsPermutation xs (get_or xs i 0 ∷ remove (swap xs i j) j)
IsPermutation-swap-remove xs i j hi hj =
    let moved = swapped_from_swap xs (swap xs i j) i j 0 hi hj refl in
    let long : j < length (swap xs i j) = omega (arith, length-swap xs i j) in
    IsPermutation-trans xs (swap xs i j) (get_or xs i 0 ∷ remove (swap xs i j) j)
    (IsPermutation-swap xs (swap xs i j) i j hi hj refl)
    (IsPermutation-remove (swap xs i j) j (get_or xs i 0) long (sym moved.1 ∙ get_or_default (swap xs i j) j 0 (get_or xs i 0) long))

-- moving an element to the dropped ones
pub IsPermutation-dropped : (xs ys zs us : List ℕ) (x : ℕ) → IsPermutation xs (x ∷ ys) → IsPermutation ys (zs ++ us) → IsPermutation xs (zs ++ (x ∷ us))
IsPermutation-dropped xs ys zs us x p q =
    IsPermutation-trans xs (x ∷ ys) (zs ++ (x ∷ us)) p
    (IsPermutation-trans (x ∷ ys) (x ∷ (zs ++ us)) (zs ++ (x ∷ us)) (IsPermutation-cons x ys (zs ++ us) q)
    (IsPermutation-sym (zs ++ (x ∷ us)) (x ∷ (zs ++ us)) (IsPermutation-middle zs x us)))

pub All-prefix : {X : Type 0} (P : X → Type 0) (xs ys : List X) → All P (xs ++ ys) → All P xs
All-prefix P xs ys h = rw take-append_seam at (All-take P (length xs) (xs ++ ys) h)

-- each element is less than all later ones
abbrev pub IsIncreasing : List ℕ → Type 0
IsIncreasing rs = (j l : ℕ) → j < l → l < length rs → slice_index rs j < slice_index rs l

pub IsIncreasing-remove : (rs : List ℕ) (k : ℕ) → k < length rs → IsIncreasing rs → IsIncreasing (remove rs k)
IsIncreasing-remove rs k hk h j l hj hl =
    let e : length (remove rs k) + 1 ≡ length rs = length-remove rs k hk in
    elim (cases_lt l k) [
      | inl lk ↦ rw (get_or-remove_below rs k 0 j (omega arith) hk, get_or-remove_below rs k 0 l lk hk) (h j l hj (omega arith))
      | inr lk ↦ elim (cases_lt j k) [
        | inl jk ↦ rw (get_or-remove_below rs k 0 j jk hk, get_or-remove_above rs k 0 l lk hk) (h j (l + 1) (omega arith) (omega arith))
        | inr jk ↦ rw (get_or-remove_above rs k 0 j jk hk, get_or-remove_above rs k 0 l lk hk) (h (j + 1) (l + 1) (omega arith) (omega arith))
      ]
    ]

module _ (same : ℕ → ℕ → Bool) where
  -- the first equal remove is equal
  pub first_equal-is_equal : (s : SideIndices) (i : ℕ) → first_equal same s i < length s.removes → same (slice_index s.adds i) (slice_index s.removes (first_equal same s i)) ≡ true
  first_equal-is_equal s i h = not-false _ (prefix_len_stops (λ r. not (same (slice_index s.adds i) r)) s.removes 0 h)

  -- r is greater than q if it equals the add
  abbrev pub FollowsIfEqual : ℕ → ℕ → ℕ → Type 0
  FollowsIfEqual a q r = same a r ≡ true → q < r

  pub first_equal-is_first : (s : SideIndices) (i : ℕ) → IsIncreasing s.removes → first_equal same s i < length s.removes
      → All (FollowsIfEqual (slice_index s.adds i) (slice_index s.removes (first_equal same s i))) (remove s.removes (first_equal same s i))
  first_equal-is_first s i rising hk l d hl e =
      let k = first_equal same s i in
      let a = slice_index s.adds i in
      let len : length (remove s.removes k) + 1 ≡ length s.removes = length-remove s.removes k hk in
      let zero_default : get_or (remove s.removes k) l d ≡ slice_index (remove s.removes k) l = get_or_default (remove s.removes k) l d 0 hl in
      elim (cases_lt l k) [
        | inl lk ↦
            let there : get_or (remove s.removes k) l d ≡ slice_index s.removes l = zero_default ∙ get_or-remove_below s.removes k 0 l lk hk in
            let no : same a (slice_index s.removes l) ≡ false = not-true _ (prefix_len_passes (λ r. not (same a r)) s.removes l 0 lk) in
            absurd (false≢true (sym no ∙ (ap (same a) (sym there) ∙ e)))
        | inr lk ↦
            let there : get_or (remove s.removes k) l d ≡ slice_index s.removes (l + 1) = zero_default ∙ get_or-remove_above s.removes k 0 l lk hk in
            rw there (rising k (l + 1) (omega arith) (omega arith))
      ]

  pub cancels_pairs : (n i : ℕ) (s : SideIndices) → i + n ≡ length s.adds → length s.adds ≡ length s.removes + 1 → IsIncreasing s.removes → CancelsPairs same s (cancel_from same n i s)
  cancels_pairs zero i s h e rising = record { pairs = []; adds = rw append-nil (IsPermutation-refl s.adds); removes = rw append-nil (IsPermutation-refl s.removes); equal = All-nil _; first = All-nil _ }
  cancels_pairs (suc n) i s h e rising =
      let k = first_equal same s i in
      by_test (λ t. CancelsPairs same s t) (nat_lt k (length s.removes)) _ _
      (λ found.
      let within : k < length s.removes = ltb-true k (length s.removes) found in
      let hi : i < length s.adds = omega arith in
      let hk : k + 1 < length s.adds = omega arith in
      let c = cancel_pair s i k in
      let e1 : length c.adds + 1 ≡ length s.adds = omega (arith, length-remove (swap s.adds i (k + 1)) (k + 1), length-swap s.adds i (k + 1)) in
      let e2 : length c.removes + 1 ≡ length s.removes = length-remove s.removes k within in
      let t = cancel_from same n i c in
      let ih = cancels_pairs n i c (omega arith) (omega arith) (IsIncreasing-remove s.removes k within rising) in
      let P : ℕ → Type 0 = FollowsIfEqual (slice_index s.adds i) (slice_index s.removes k) in
      record {
        pairs = (slice_index s.adds i, slice_index s.removes k) ∷ ih.pairs;
        adds = IsPermutation-dropped s.adds c.adds t.adds (map (λ p. p.0) ih.pairs) (slice_index s.adds i) (IsPermutation-swap-remove s.adds i (k + 1) hi hk) ih.adds;
        removes = IsPermutation-dropped s.removes c.removes t.removes (map (λ p. p.1) ih.pairs) (slice_index s.removes k) (IsPermutation-remove s.removes k (slice_index s.removes k) within (get_or_default s.removes k 0 _ within)) ih.removes;
        equal = All-cons (λ p. same p.0 p.1 ≡ true) (slice_index s.adds i, slice_index s.removes k) ih.pairs (first_equal-is_equal s i within) ih.equal;
        first = All-cons (λ p. All (λ r. same p.0 r ≡ true → p.1 < r) t.removes) (slice_index s.adds i, slice_index s.removes k) ih.pairs
            (All-prefix P t.removes (map (λ p. p.1) ih.pairs) (All-permutation P c.removes (t.removes ++ map (λ p. p.1) ih.pairs) ih.removes (first_equal-is_first s i rising within))) ih.first;
      })
      (λ passed. cancels_pairs n (i + 1) s (omega arith) e rising)

  pub removes_increase : (n i : ℕ) (s : SideIndices) → IsIncreasing s.removes → IsIncreasing (cancel_from same n i s).removes
  removes_increase zero i s rising = rising
  removes_increase (suc n) i s rising =
      let k = first_equal same s i in
      by_test (λ (t : SideIndices). IsIncreasing t.removes) (nat_lt k (length s.removes)) _ _
      (λ found. removes_increase n i (cancel_pair s i k) (IsIncreasing-remove s.removes k (ltb-true k (length s.removes) found) rising))
      (λ passed. removes_increase n (i + 1) s rising)

  -- the first i adds equal no remove
  abbrev pub HaveNoMatch : ℕ → SideIndices → Type 0
  HaveNoMatch i s = (j l : ℕ) → j < i → l < length s.removes → same (slice_index s.adds j) (slice_index s.removes l) ≡ false

  -- a remaining remove was there before
  remove-index : (rs : List ℕ) (k l : ℕ) → k < length rs → l < length (remove rs k) → (l' : ℕ) × (l' < length rs) × (slice_index (remove rs k) l ≡ slice_index rs l')
  remove-index rs k l hk hl =
      let e : length (remove rs k) + 1 ≡ length rs = length-remove rs k hk in
      elim (cases_lt l k) [
        | inl h ↦ (l, omega arith, get_or-remove_below rs k 0 l h hk)
        | inr h ↦ (l + 1, omega arith, get_or-remove_above rs k 0 l h hk)
      ]

  -- an add before position i was there before
  cancel_pair-index : (xs : List ℕ) (i k j : ℕ) → i < length xs → k + 1 < length xs → j < i → (j' : ℕ) × (j' < i) × (slice_index (remove (swap xs i (k + 1)) (k + 1)) j ≡ slice_index xs j')
  cancel_pair-index xs i k j hi hk hj =
      let ys = swap xs i (k + 1) in
      let moved = swapped_from_swap xs ys i (k + 1) 0 hi hk refl in
      let long : k + 1 < length ys = omega (arith, length-swap xs i (k + 1)) in
      elim (cases_lt j (k + 1)) [
        | inl h ↦ (j, hj, get_or-remove_below ys (k + 1) 0 j h long ∙ moved.2 j (omega arith) (omega arith))
        | inr h ↦ elim (cases_eq (j + 1) i) [
          | inl e ↦ (k + 1, omega arith, get_or-remove_above ys (k + 1) 0 j h long ∙ (ap (λ n. get_or ys n 0) e ∙ moved.0))
          | inr e ↦ (j + 1, omega arith, get_or-remove_above ys (k + 1) 0 j h long ∙ moved.2 (j + 1) e (omega arith))
        ]
      ]

  pub HaveNoMatch-cancel_pair : (i k : ℕ) (s : SideIndices) → i < length s.adds → k + 1 < length s.adds → k < length s.removes → HaveNoMatch i s → HaveNoMatch i (cancel_pair s i k)
  HaveNoMatch-cancel_pair i k s hi hk hr p j l hj hl =
      let a = cancel_pair-index s.adds i k j hi hk hj in
      let b = remove-index s.removes k l hr hl in
      rw (a.2, b.2) (p a.0 b.0 a.1 b.1)

  pub HaveNoMatch-more : (i : ℕ) (s : SideIndices) → i < length s.adds → nat_lt (first_equal same s i) (length s.removes) ≡ false → HaveNoMatch i s → HaveNoMatch (i + 1) s
  HaveNoMatch-more i s hi e p j l hj hl =
      elim (cases_eq j i) [
        | inl j_is_i ↦ rw j_is_i
            (not-true _ (prefix_len_passes (λ r. not (same (slice_index s.adds i) r)) s.removes l 0
            (let past : length s.removes ≤ first_equal same s i = ltb-false (first_equal same s i) (length s.removes) e in omega arith)))
        | inr j_is_not_i ↦ p j l (omega arith) hl
      ]

  pub no_equal_pair : (n i : ℕ) (s : SideIndices) → i + n ≡ length s.adds → length s.adds ≡ length s.removes + 1 → HaveNoMatch i s → HasNoEqualPair same (cancel_from same n i s)
  no_equal_pair zero i s h e p = λ j l hj hl. p j l (omega arith) hl
  no_equal_pair (suc n) i s h e p =
      let k = first_equal same s i in
      let hi : i < length s.adds = omega arith in
      by_test (HasNoEqualPair same) (nat_lt k (length s.removes)) _ _
      (λ found.
      let within : k < length s.removes = ltb-true k (length s.removes) found in
      let hk : k + 1 < length s.adds = omega arith in
      let c = cancel_pair s i k in
      let e1 : length c.adds + 1 ≡ length s.adds = omega (arith, length-remove (swap s.adds i (k + 1)) (k + 1), length-swap s.adds i (k + 1)) in
      let e2 : length c.removes + 1 ≡ length s.removes = length-remove s.removes k within in
      no_equal_pair n i c (omega arith) (omega arith) (HaveNoMatch-cancel_pair i k s hi hk within p))
      (λ passed. no_equal_pair n (i + 1) s (omega arith) e (HaveNoMatch-more i s hi passed p))
