-- Disjoint merges with the same signed counts have the same sides, and are the shortest with these
-- counts.
use Rattle.std.proofs.Common.{◌≡◌, ℕ, ◌+◌, ◌<◌, ◌≤◌, ◌⊎◌, inl, inr, suc, zero, Bool, true, false, cond, List, [], ◌∷◌, length, refl, ap, arith, sym, ◌∙◌, get_or, remove}
use Rattle.std.specs.Prelude.{count_by, pos, ◌-ℤ◌}
use Rattle.std.specs.Cmp.{IsEquivalence}
use Rattle.std.proofs.lemmas.Int.{ints}
use Rattle.std.proofs.lemmas.Bool.{false≢true}
use Rattle.std.proofs.lemmas.List.Sums.{sum_by-cons}
use Rattle.std.proofs.lemmas.List.Sorted.{IsPermutation-remove, sum_by_popped}
use Rattle.std.proofs.lemmas.List.Edits.{length-remove}
use Rattle.jj_merges.specs.Merge as merge
use Rattle.jj_merges.specs.Merge.{HaveSameCounts, IsDisjoint, signed_count}
use Rattle.jj_merges.proofs.AddCounts.{weight, weight-true, weight-false}
use Rattle.jj_merges.proofs.Sides.{length-adds, length-removes}

cases : (b : Bool) → (b ≡ true) ⊎ (b ≡ false)
cases true = inl refl
cases false = inr refl

-- a positive count has a witness
pub witness-count : {T : Type 0} (p : T → Bool) (xs : List T) → 0 < count_by p xs → (k : ℕ) × (x : T) × (k < length xs) × (x ≡ get_or xs k x) × (p x ≡ true)
witness-count p [] h = absurd (omega arith)
witness-count p (x ∷ xs) h =
    elim (cases (p x)) [
      | inl y ↦ (0, x, omega arith, refl, y)
      | inr n ↦
          let r = witness-count p xs (omega (arith, sum_by-cons (weight p) x xs, weight-false p x n)) in
          (suc r.0, r.1, omega arith, r.3, r.4)
    ]

module _ {T : Type 0} (eq : T → T → Bool) (laws : IsEquivalence eq) where
  pub weight-alike : (v x y : T) → eq x y ≡ true → weight (eq v) x ≡ weight (eq v) y
  weight-alike v x y h = ap (λ b. cond b 1 0) (laws.symm v x ∙ (laws.congr x y v h ∙ laws.symm y v))

  -- a list with smaller counts is not longer
  pub length-le-by_counts : (xs ys : List T) → ((v : T) → count_by (eq v) xs ≤ count_by (eq v) ys) → length xs ≤ length ys
  length-le-by_counts [] ys h = omega arith
  length-le-by_counts (x ∷ xs) ys h =
      let one = weight-true (eq x) x (laws.refl x) in
      let f = witness-count (eq x) ys (omega (arith, h x, sum_by-cons (weight (eq x)) x xs)) in
      let rest = length-le-by_counts xs (remove ys f.0) (λ v.
      omega (arith, h v, sum_by-cons (weight (eq v)) x xs, sum_by_popped (weight (eq v)) f.1 ys (remove ys f.0) (IsPermutation-remove ys f.0 f.1 f.2 f.3), weight-alike v x f.1 f.4)) in
      omega (arith, length-remove ys f.0 f.2)

  -- in a disjoint merge no value has positive counts on both sides
  pub one_side : (m : List T) → IsDisjoint eq m → (v : T) → 0 < count_by (eq v) (merge.adds m) → 0 < count_by (eq v) (merge.removes m) → ⊥
  one_side m d v ha hr =
      let a = witness-count (eq v) (merge.adds m) ha in
      let r = witness-count (eq v) (merge.removes m) hr in
      false≢true (sym (ap (λ x. eq x r.1) a.3 ∙ (ap (λ y. eq (get_or (merge.adds m) a.0 a.1) y) r.3 ∙ d a.0 a.1 a.2 r.0 r.1 r.2)) ∙ (sym (laws.congr v a.1 r.1 a.4) ∙ r.4))

  both_counts : (a b c d : ℕ) → pos a -ℤ pos b ≡ pos c -ℤ pos d → a + d ≡ c + b
  both_counts a b c d h = omega (arith, ints)

  one_zero : (a r : ℕ) → (0 < a → 0 < r → ⊥) → (a ≡ 0) ⊎ (r ≡ 0)
  one_zero zero r h = inl refl
  one_zero (suc a) zero h = inr refl
  one_zero (suc a) (suc r) h = absurd (h (omega arith) (omega arith))

  -- two disjoint merges with the same signed counts
  pub same_sides : (m n : List T) → IsDisjoint eq m → IsDisjoint eq n → HaveSameCounts eq m n → (v : T)
      → (count_by (eq v) (merge.adds m) ≡ count_by (eq v) (merge.adds n)) × (count_by (eq v) (merge.removes m) ≡ count_by (eq v) (merge.removes n))
  same_sides m n dm dn h v =
      let e = both_counts (count_by (eq v) (merge.adds m)) (count_by (eq v) (merge.removes m)) (count_by (eq v) (merge.adds n)) (count_by (eq v) (merge.removes n)) (h v) in
      let xm = one_zero (count_by (eq v) (merge.adds m)) (count_by (eq v) (merge.removes m)) (one_side m dm v) in
      let xn = one_zero (count_by (eq v) (merge.adds n)) (count_by (eq v) (merge.removes n)) (one_side n dn v) in
      (omega (arith, e, xm, xn), omega (arith, e, xm, xn))

  -- a disjoint merge and any other with the same signed counts
  pub minimal_length : (m n : List T) → IsDisjoint eq m → HaveSameCounts eq m n → length m ≤ length n
  minimal_length m n dm h =
      let le : (v : T) → (count_by (eq v) (merge.adds m) ≤ count_by (eq v) (merge.adds n)) × (count_by (eq v) (merge.removes m) ≤ count_by (eq v) (merge.removes n)) =
      λ v.
      let e = both_counts (count_by (eq v) (merge.adds m)) (count_by (eq v) (merge.removes m)) (count_by (eq v) (merge.adds n)) (count_by (eq v) (merge.removes n)) (h v) in
      let xm = one_zero (count_by (eq v) (merge.adds m)) (count_by (eq v) (merge.removes m)) (one_side m dm v) in
      (omega (arith, e, xm), omega (arith, e, xm)) in
      let a = length-le-by_counts (merge.adds m) (merge.adds n) (λ v. (le v).0) in
      let r = length-le-by_counts (merge.removes m) (merge.removes n) (λ v. (le v).1) in
      omega (arith, a, r, length-adds m, length-removes m, length-adds n, length-removes n)
