-- `adds` and `removes` of a list with one more term.
use Rattle.std.proofs.Common.{◌≡◌, ◌≢◌, ℕ, ◌+◌, ◌%◌, suc, zero, List, [], ◌∷◌, ◌++◌, length, refl, ap, arith, ◌∙◌}
use Rattle.std.specs.List.{range_with_len}
use Rattle.std.proofs.lemmas.List.FromFn.{length-range_with_len}
use Rattle.jj_merges.specs.Merge as merge
use Rattle.jj_merges.specs.Simplify.{split_indices}

pub range_with_len-push : (a n : ℕ) → range_with_len a (suc n) ≡ range_with_len a n ++ (a + n) ∷ []
range_with_len-push a zero = ap (λ k. k ∷ []) (omega arith)
range_with_len-push a (suc n) = ap (λ ks. a ∷ ks) (range_with_len-push (a + 1) n ∙ ap (λ k. range_with_len (a + 1) n ++ k ∷ []) (omega arith))

mutual
  pub adds-push_even : {T : Type 0} (xs : List T) (y : T) → length xs % 2 ≡ 0 → merge.adds (xs ++ y ∷ []) ≡ merge.adds xs ++ y ∷ []
  adds-push_even [] y e = refl
  adds-push_even (x ∷ xs) y e = ap (λ ys. x ∷ ys) (removes-push_odd xs y (omega arith))

  pub removes-push_odd : {T : Type 0} (xs : List T) (y : T) → length xs % 2 ≡ 1 → merge.removes (xs ++ y ∷ []) ≡ merge.removes xs ++ y ∷ []
  removes-push_odd [] y e = absurd (omega arith)
  removes-push_odd (x ∷ xs) y e = adds-push_even xs y (omega arith)

mutual
  pub adds-push_odd : {T : Type 0} (xs : List T) (y : T) → length xs % 2 ≡ 1 → merge.adds (xs ++ y ∷ []) ≡ merge.adds xs
  adds-push_odd [] y e = absurd (omega arith)
  adds-push_odd (x ∷ xs) y e = ap (λ ys. x ∷ ys) (removes-push_even xs y (omega arith))

  pub removes-push_even : {T : Type 0} (xs : List T) (y : T) → length xs % 2 ≡ 0 → merge.removes (xs ++ y ∷ []) ≡ merge.removes xs
  removes-push_even [] y e = refl
  removes-push_even (x ∷ xs) y e = adds-push_odd xs y (omega arith)

range-more : (n : ℕ) → range_with_len 0 (n + 1) ≡ range_with_len 0 n ++ n ∷ []
range-more n =
    let e : n + 1 ≡ suc n = omega arith in
    let z : 0 + n ≡ n = omega arith in
    ap (range_with_len 0) e ∙ (range_with_len-push 0 n ∙ ap (λ k. range_with_len 0 n ++ k ∷ []) z)

pub adds-more_even : (n : ℕ) → n % 2 ≡ 0 → (split_indices (n + 1)).adds ≡ (split_indices n).adds ++ n ∷ []
adds-more_even n e = ap merge.adds (range-more n) ∙ adds-push_even (range_with_len 0 n) n (omega (arith, length-range_with_len 0 n))

pub adds-more_odd : (n : ℕ) → n % 2 ≢ 0 → (split_indices (n + 1)).adds ≡ (split_indices n).adds
adds-more_odd n e = ap merge.adds (range-more n) ∙ adds-push_odd (range_with_len 0 n) n (omega (arith, length-range_with_len 0 n))

pub removes-more_even : (n : ℕ) → n % 2 ≡ 0 → (split_indices (n + 1)).removes ≡ (split_indices n).removes
removes-more_even n e = ap merge.removes (range-more n) ∙ removes-push_even (range_with_len 0 n) n (omega (arith, length-range_with_len 0 n))

pub removes-more_odd : (n : ℕ) → n % 2 ≢ 0 → (split_indices (n + 1)).removes ≡ (split_indices n).removes ++ n ∷ []
removes-more_odd n e = ap merge.removes (range-more n) ∙ removes-push_odd (range_with_len 0 n) n (omega (arith, length-range_with_len 0 n))

pub ruleset split_indices_steps = (adds-more_even, adds-more_odd, removes-more_even, removes-more_odd)
