-- Loop invariants of `cancellation::simplified_indices` and `cancellation::interleave`.
use Rattle.std.proofs.Common.{◌≡◌, ℕ, ◌+◌, ◌-◌, ◌%◌, ◌<◌, ◌≤◌, suc, zero, Bool, true, false, cond, List, [], ◌∷◌, ◌++◌, length, take, Some, None, refl, ap, arith, sym, ◌∙◌, get_or, swap, All}
use Rattle.std.specs.Prelude.{slice_index, nat_lt, position}
use Rattle.std.proofs.lemmas.Bool.{lt-ltb}
use Rattle.std.proofs.lemmas.List.Sums.{position_or_len_is}
use Rattle.std.proofs.lemmas.List.Quantifiers.{position-Some}
use Rattle.std.proofs.lemmas.List.Edits.{length-remove, length-swap}
use Rattle.std.proofs.lemmas.List.{get_or_default}
use Rattle.std.proofs.lemmas.List.Elements.{All-tail}
use Rattle.std.proofs.lemmas.List.Sorted.{All-permutation, IsPermutation-remove}
use Rattle.std.proofs.lemmas.List.FromFn.{length-range_with_len, get_or-range_with_len}
use Rattle.std.specs.List.{range_with_len}
use Rattle.jj_merges.specs.Merge as merge
use Rattle.jj_merges.specs.Merge.{interleave}
use Rattle.jj_merges.proofs.Cancellation.{IsPermutation-swap-remove, first_equal, simplified_sides}
use Rattle.jj_merges.proofs.SimplifiedIndices.{length-split_indices, all_adds, All-adds, All-removes}
use Rattle.jj_merges.specs.Simplify.{SideIndices, cancel_pair, cancel_from, split_indices, equal_at}

module _ (same : ℕ → ℕ → Bool) where
  -- the sides after all steps from position i on
  abbrev pub cancel_rest : ℕ → SideIndices → SideIndices
  cancel_rest i s = cancel_from same (length s.adds - i) i s

  chosen_true : {A : Type 0} (b : Bool) (x y : A) → b ≡ true → cond b x y ≡ x
  chosen_true true x y h = refl
  chosen_true false x y h = ap (λ b. cond b x y) h

  chosen_false : {A : Type 0} (b : Bool) (x y : A) → b ≡ false → cond b x y ≡ y
  chosen_false b x y h = ap (λ b. cond b x y) h

  not_chosen : (b : Bool) (k : ℕ) → None ≡ cond b (Some k) None → b ≡ false
  not_chosen true k h = cc
  not_chosen false k h = refl

  pub cancel_rest-found : (i k : ℕ) (s : SideIndices) → i < length s.adds → k + 1 < length s.adds → Some k ≡ position (same (slice_index s.adds i)) s.removes → cancel_rest i s ≡ cancel_rest i (cancel_pair s i k)
  cancel_rest-found i k s hi hk found =
      let at = position-Some (same (slice_index s.adds i)) s.removes k 0 (sym found) in
      let e : first_equal same s i ≡ k = position_or_len_is (same (slice_index s.adds i)) s.removes k 0 (omega arith) at.2 (λ _. at.1) in
      let n = length (cancel_pair s i k).adds - i in
      let len : length (cancel_pair s i k).adds + 1 ≡ length s.adds = omega (arith, length-remove (swap s.adds i (k + 1)) (k + 1), length-swap s.adds i (k + 1)) in
      let more : length s.adds - i ≡ suc n = omega arith in
      let t : nat_lt (first_equal same s i) (length s.removes) ≡ true = lt-ltb (first_equal same s i) (length s.removes) (omega arith) in
      ap (λ j. cancel_from same j i s) more
      ∙ (chosen_true (nat_lt (first_equal same s i) (length s.removes)) (cancel_from same n i (cancel_pair s i (first_equal same s i))) (cancel_from same n (i + 1) s) t
      ∙ ap (λ j. cancel_from same n i (cancel_pair s i j)) e)

  pub cancel_rest-passed : (i : ℕ) (s : SideIndices) → i < length s.adds → None ≡ position (same (slice_index s.adds i)) s.removes → cancel_rest i s ≡ cancel_rest (i + 1) s
  cancel_rest-passed i s hi none =
      let n = length s.adds - (i + 1) in
      let more : length s.adds - i ≡ suc n = omega arith in
      let f : nat_lt (first_equal same s i) (length s.removes) ≡ false = not_chosen (nat_lt (first_equal same s i) (length s.removes)) (first_equal same s i) none in
      ap (λ j. cancel_from same j i s) more
      ∙ chosen_false (nat_lt (first_equal same s i) (length s.removes)) (cancel_from same n i (cancel_pair s i (first_equal same s i))) (cancel_from same n (i + 1) s) f

  pub cancel_rest-done : (i : ℕ) (s : SideIndices) → length s.adds ≤ i → cancel_rest i s ≡ s
  cancel_rest-done i s h = let e : length s.adds - i ≡ 0 = omega arith in ap (λ j. cancel_from same j i s) e

-- n is the number of terms, and `whole` the final sides
pub record LoopInvariant (same : ℕ → ℕ → Bool) (n : ℕ) (whole : SideIndices) (i : ℕ) (s : SideIndices) : Type 0 where
  pub within : i ≤ length s.adds
  pub one_more : length s.adds ≡ length s.removes + 1
  pub adds_in_range : All (λ p. p < n) s.adds
  pub removes_in_range : All (λ p. p < n) s.removes
  pub final : cancel_rest same i s ≡ whole

module _ (same : ℕ → ℕ → Bool) (n : ℕ) (whole : SideIndices) where
  pub LoopInvariant-found : (i k : ℕ) (s : SideIndices) → LoopInvariant same n whole i s → i < length s.adds → Some k ≡ position (same (slice_index s.adds i)) s.removes
      → LoopInvariant same n whole i (cancel_pair s i k)
  LoopInvariant-found i k s r hi found =
      let at = position-Some (same (slice_index s.adds i)) s.removes k 0 (sym found) in
      let within : k < length s.removes = at.0 in
      let hk : k + 1 < length s.adds = omega (arith, r.one_more) in
      let c = cancel_pair s i k in
      let e1 : length c.adds + 1 ≡ length s.adds = omega (arith, length-remove (swap s.adds i (k + 1)) (k + 1), length-swap s.adds i (k + 1)) in
      let e2 : length c.removes + 1 ≡ length s.removes = length-remove s.removes k within in
      let P : ℕ → Type 0 = λ p. p < n in
      record {
        within = omega arith;
        one_more = omega (arith, r.one_more);
        adds_in_range = All-tail P (slice_index s.adds i) c.adds (All-permutation P s.adds (slice_index s.adds i ∷ c.adds) (IsPermutation-swap-remove s.adds i (k + 1) hi hk) r.adds_in_range);
        removes_in_range = All-tail P (slice_index s.removes k) c.removes (All-permutation P s.removes (slice_index s.removes k ∷ c.removes) (IsPermutation-remove s.removes k (slice_index s.removes k) within (get_or_default s.removes k 0 (slice_index s.removes k) within)) r.removes_in_range);
        final = sym (cancel_rest-found same i k s hi hk found) ∙ r.final;
      }

  -- bounds for `cancel_pair`, and the measure
  pub length-found : (i k : ℕ) (s : SideIndices) → LoopInvariant same n whole i s → i < length s.adds → Some k ≡ position (same (slice_index s.adds i)) s.removes
      → (k + 1 < length s.adds) × (k < length s.removes) × (length (cancel_pair s i k).adds + 1 ≡ length s.adds)
  length-found i k s r hi found =
      let at = position-Some (same (slice_index s.adds i)) s.removes k 0 (sym found) in
      let within : k < length s.removes = at.0 in
      let hk : k + 1 < length s.adds = omega (arith, r.one_more) in
      (hk, within, omega (arith, length-remove (swap s.adds i (k + 1)) (k + 1), length-swap s.adds i (k + 1)))

  pub LoopInvariant-passed : (i : ℕ) (s : SideIndices) → LoopInvariant same n whole i s → i < length s.adds → None ≡ position (same (slice_index s.adds i)) s.removes → LoopInvariant same n whole (i + 1) s
  LoopInvariant-passed i s r hi none = record {
    within = omega arith;
    one_more = r.one_more;
    adds_in_range = r.adds_in_range;
    removes_in_range = r.removes_in_range;
    final = sym (cancel_rest-passed same i s hi none) ∙ r.final;
  }

  pub LoopInvariant-done : (i : ℕ) (s : SideIndices) → LoopInvariant same n whole i s → length s.adds ≤ i → s ≡ whole
  LoopInvariant-done i s r h = sym (cancel_rest-done same i s h) ∙ r.final

range_below : (n : ℕ) → All (λ p. p < n) (range_with_len 0 n)
range_below n k d hk =
    let within : k < n = omega (arith, length-range_with_len 0 n) in
    omega (arith, get_or-range_with_len 0 n k d within)

pub LoopInvariant-start : {T : Type 0} (eq : T → T → Bool) (m : List T) → length m % 2 ≡ 1 → LoopInvariant (equal_at eq m) (length m) (simplified_sides eq m) 0 (split_indices (length m))
LoopInvariant-start eq m odd = record {
  within = omega arith;
  one_more = length-split_indices eq (length m) odd;
  adds_in_range = All-adds (λ p. p < length m) (range_with_len 0 (length m)) (range_below (length m));
  removes_in_range = All-removes (λ p. p < length m) (range_with_len 0 (length m)) (range_below (length m));
  final =
      let e : length (split_indices (length m)).adds - 0 ≡ length (merge.adds m) = omega (arith, all_adds eq m) in
      ap (λ j. cancel_from (equal_at eq m) j 0 (split_indices (length m))) e;
}

-- loop steps of `interleave`
pub interleave-more : (xs ys : List ℕ) (i : ℕ) → i < length xs → i < length ys → interleave (take (i + 1) xs) (take (i + 1) ys) ≡ (interleave (take i xs) (take i ys) ++ get_or xs i 0 ∷ []) ++ get_or ys i 0 ∷ []
interleave-more [] ys i hx hy = absurd (omega arith)
interleave-more (x ∷ xs) [] i hx hy = absurd (omega arith)
interleave-more (x ∷ xs) (y ∷ ys) zero hx hy = refl
interleave-more (x ∷ xs) (y ∷ ys) (suc i) hx hy =
    let e : suc i + 1 ≡ suc (i + 1) = omega arith in
    rw e (ap (λ zs. x ∷ y ∷ zs) (interleave-more xs ys i (omega arith) (omega arith)))

pub interleave-last : (xs ys : List ℕ) (n : ℕ) → length ys ≡ n → length xs ≡ n + 1 → interleave (take n xs) (take n ys) ++ get_or xs n 0 ∷ [] ≡ interleave xs ys
interleave-last [] ys n hy hx = absurd (omega arith)
interleave-last (x ∷ []) [] n hy hx = let e : n ≡ zero = omega arith in rw e refl
interleave-last (x ∷ x' ∷ xs) [] n hy hx = absurd (omega arith)
interleave-last (x ∷ xs) (y ∷ ys) zero hy hx = absurd (omega arith)
interleave-last (x ∷ xs) (y ∷ ys) (suc n) hy hx = ap (λ zs. x ∷ y ∷ zs) (interleave-last xs ys n (omega arith) (omega arith))

pub ruleset interleave_steps = (interleave-more, interleave-last)
