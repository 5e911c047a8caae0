-- Terms, length and signed counts of flattened merges.
use Rattle.std.proofs.Common.{◌≡◌, ℕ, ◌+◌, ◌%◌, suc, Bool, cond, List, [], ◌∷◌, ◌++◌, length, All, refl, ap, arith, sym, ◌∙◌, append_assoc, append-nil, length-append}
use Rattle.std.specs.Prelude.{count_by, pos, ◌-ℤ◌}
use Rattle.std.proofs.lemmas.Int.{ints}
use Rattle.std.proofs.lemmas.List.Elements.{All-head, All-tail, All-nil, All-cons}
use Rattle.std.proofs.lemmas.List.Sums.{sum_by-append, sum_by-cons}
use Rattle.jj_merges.specs.Merge.{adds, removes, signed_count}
use Rattle.jj_merges.specs.Flatten.{inverse_terms, swap_pairs, flattened_terms, flattened_after_add, nested_count}
use Rattle.jj_merges.proofs.SideAppend.{adds-push_even, removes-push_even}

differences : (a b c d : ℕ) → pos (a + d) -ℤ pos (b + c) ≡ (pos a -ℤ pos b) -ℤ (pos c -ℤ pos d)
differences a b c d = omega (arith, ints)

same_difference : (a b c d : ℕ) → a ≡ c → b ≡ d → pos a -ℤ pos b ≡ pos c -ℤ pos d
same_difference a b c d e f = omega (arith, ints)

module _ {T : Type 0} where
  -- each merge has an odd number of terms
  abbrev pub AreOdd : List (List T) → Type 0
  AreOdd = All (λ m. length m % 2 ≡ 1)

  pub AreOdd-push : (ms : List (List T)) (m : List T) → AreOdd ms → length m % 2 ≡ 1 → AreOdd (ms ++ m ∷ [])
  AreOdd-push [] m h odd = All-cons (λ n. length n % 2 ≡ 1) m [] odd (All-nil (λ n. length n % 2 ≡ 1))
  AreOdd-push (n ∷ ms) m h odd =
      All-cons (λ k. length k % 2 ≡ 1) n (ms ++ m ∷ []) (All-head (λ k. length k % 2 ≡ 1) n ms h) (AreOdd-push ms m (All-tail (λ k. length k % 2 ≡ 1) n ms h) odd)

  mutual
    pub flattened_terms-push_even : (ms : List (List T)) (m : List T) → length ms % 2 ≡ 0 → flattened_terms (ms ++ m ∷ []) ≡ flattened_terms ms ++ m
    flattened_terms-push_even [] m e = append-nil m
    flattened_terms-push_even (n ∷ ms) m e = ap (λ xs. n ++ xs) (flattened_after_add-push_odd ms m (omega arith)) ∙ sym (append_assoc n (flattened_after_add ms) m)

    pub flattened_after_add-push_odd : (ms : List (List T)) (m : List T) → length ms % 2 ≡ 1 → flattened_after_add (ms ++ m ∷ []) ≡ flattened_after_add ms ++ m
    flattened_after_add-push_odd [] m e = absurd (omega arith)
    flattened_after_add-push_odd (n ∷ ms) m e = ap (λ xs. inverse_terms n ++ xs) (flattened_terms-push_even ms m (omega arith)) ∙ sym (append_assoc (inverse_terms n) (flattened_terms ms) m)

  mutual
    pub flattened_terms-push_odd : (ms : List (List T)) (m : List T) → length ms % 2 ≡ 1 → flattened_terms (ms ++ m ∷ []) ≡ flattened_terms ms ++ inverse_terms m
    flattened_terms-push_odd [] m e = absurd (omega arith)
    flattened_terms-push_odd (n ∷ ms) m e = ap (λ xs. n ++ xs) (flattened_after_add-push_even ms m (omega arith)) ∙ sym (append_assoc n (flattened_after_add ms) (inverse_terms m))

    pub flattened_after_add-push_even : (ms : List (List T)) (m : List T) → length ms % 2 ≡ 0 → flattened_after_add (ms ++ m ∷ []) ≡ flattened_after_add ms ++ inverse_terms m
    flattened_after_add-push_even [] m e = append-nil (inverse_terms m)
    flattened_after_add-push_even (n ∷ ms) m e = ap (λ xs. inverse_terms n ++ xs) (flattened_terms-push_odd ms m (omega arith)) ∙ sym (append_assoc (inverse_terms n) (flattened_terms ms) (inverse_terms m))

  length-swap_pairs : (xs : List T) → length (swap_pairs xs) ≡ length xs
  length-swap_pairs [] = refl
  length-swap_pairs (x ∷ []) = refl
  length-swap_pairs (r ∷ a ∷ xs) = ap (λ n. suc (suc n)) (length-swap_pairs xs)

  pub length-inverse_terms : (m : List T) → length (inverse_terms m) ≡ length m
  length-inverse_terms [] = refl
  length-inverse_terms (x ∷ xs) = omega (arith, length-append (swap_pairs xs) (x ∷ []), length-swap_pairs xs)

  mutual
    pub odd_flattened : (ms : List (List T)) → AreOdd ms → length ms % 2 ≡ 1 → length (flattened_terms ms) % 2 ≡ 1
    odd_flattened [] h e = absurd (omega arith)
    odd_flattened (m ∷ ms) h e =
        omega (arith, length-append m (flattened_after_add ms), All-head (λ k. length k % 2 ≡ 1) m ms h, even_flattened_after ms (All-tail (λ k. length k % 2 ≡ 1) m ms h) (omega arith))

    even_flattened_after : (ms : List (List T)) → AreOdd ms → length ms % 2 ≡ 0 → length (flattened_after_add ms) % 2 ≡ 0
    even_flattened_after [] h e = refl
    even_flattened_after (m ∷ ms) h e =
        omega (arith, length-append (inverse_terms m) (flattened_terms ms), length-inverse_terms m, All-head (λ k. length k % 2 ≡ 1) m ms h, odd_flattened ms (All-tail (λ k. length k % 2 ≡ 1) m ms h) (omega arith))

  mutual
    adds-append_odd : (m xs : List T) → length m % 2 ≡ 1 → adds (m ++ xs) ≡ adds m ++ removes xs
    adds-append_odd [] xs e = absurd (omega arith)
    adds-append_odd (x ∷ m) xs e = ap (λ ys. x ∷ ys) (removes-append_even m xs (omega arith))

    removes-append_even : (m xs : List T) → length m % 2 ≡ 0 → removes (m ++ xs) ≡ removes m ++ removes xs
    removes-append_even [] xs e = refl
    removes-append_even (x ∷ m) xs e = adds-append_odd m xs (omega arith)

  mutual
    removes-append_odd : (m xs : List T) → length m % 2 ≡ 1 → removes (m ++ xs) ≡ removes m ++ adds xs
    removes-append_odd [] xs e = absurd (omega arith)
    removes-append_odd (x ∷ m) xs e = adds-append_even m xs (omega arith)

    adds-append_even : (m xs : List T) → length m % 2 ≡ 0 → adds (m ++ xs) ≡ adds m ++ adds xs
    adds-append_even [] xs e = refl
    adds-append_even (x ∷ m) xs e = ap (λ ys. x ∷ ys) (removes-append_odd m xs (omega arith))

  adds-swap_pairs : (xs : List T) → length xs % 2 ≡ 0 → adds (swap_pairs xs) ≡ removes xs
  adds-swap_pairs [] e = refl
  adds-swap_pairs (x ∷ []) e = absurd (omega arith)
  adds-swap_pairs (r ∷ a ∷ xs) e = ap (λ ys. a ∷ ys) (adds-swap_pairs xs (omega arith))

  removes-swap_pairs : (xs : List T) → length xs % 2 ≡ 0 → removes (swap_pairs xs) ≡ adds xs
  removes-swap_pairs [] e = refl
  removes-swap_pairs (x ∷ []) e = absurd (omega arith)
  removes-swap_pairs (r ∷ a ∷ xs) e = ap (λ ys. r ∷ ys) (removes-swap_pairs xs (omega arith))

  module _ (eq : T → T → Bool) (v : T) where
    count : List T → ℕ
    count = count_by (eq v)

    -- terms after an odd number of terms change sides, so their counts are subtracted
    pub signed_count-append : (m xs : List T) → length m % 2 ≡ 1 → signed_count eq (m ++ xs) v ≡ signed_count eq m v -ℤ signed_count eq xs v
    signed_count-append m xs odd =
        let f : T → ℕ = λ x. cond (eq v x) 1 0 in
        let a : count_by (eq v) (adds (m ++ xs)) ≡ count_by (eq v) (adds m) + count_by (eq v) (removes xs) = ap (count_by (eq v)) (adds-append_odd m xs odd) ∙ sum_by-append f (adds m) (removes xs) in
        let r : count_by (eq v) (removes (m ++ xs)) ≡ count_by (eq v) (removes m) + count_by (eq v) (adds xs) = ap (count_by (eq v)) (removes-append_odd m xs odd) ∙ sum_by-append f (removes m) (adds xs) in
        same_difference (count_by (eq v) (adds (m ++ xs))) (count_by (eq v) (removes (m ++ xs))) (count_by (eq v) (adds m) + count_by (eq v) (removes xs)) (count_by (eq v) (removes m) + count_by (eq v) (adds xs)) a r
        ∙ differences (count_by (eq v) (adds m)) (count_by (eq v) (removes m)) (count_by (eq v) (adds xs)) (count_by (eq v) (removes xs))

    signed_count-inverse_terms : (m : List T) → length m % 2 ≡ 1 → signed_count eq (inverse_terms m) v ≡ signed_count eq m v
    signed_count-inverse_terms [] odd = refl
    signed_count-inverse_terms (x ∷ xs) odd =
        let f : T → ℕ = λ y. cond (eq v y) 1 0 in
        let even : length (swap_pairs xs) % 2 ≡ 0 = omega (arith, length-swap_pairs xs) in
        let a : count_by (eq v) (adds (inverse_terms (x ∷ xs))) ≡ count_by (eq v) (x ∷ removes xs) =
        ap (count_by (eq v)) (adds-push_even (swap_pairs xs) x even ∙ ap (λ ys. ys ++ x ∷ []) (adds-swap_pairs xs (omega arith)))
        ∙ omega (arith, sum_by-append f (removes xs) (x ∷ []), sum_by-cons f x (removes xs), sum_by-cons f x []) in
        let r : count_by (eq v) (removes (inverse_terms (x ∷ xs))) ≡ count_by (eq v) (adds xs) =
        ap (count_by (eq v)) (removes-push_even (swap_pairs xs) x even ∙ removes-swap_pairs xs (omega arith)) in
        same_difference (count_by (eq v) (adds (inverse_terms (x ∷ xs)))) (count_by (eq v) (removes (inverse_terms (x ∷ xs)))) (count_by (eq v) (x ∷ removes xs)) (count_by (eq v) (adds xs)) a r

    mutual
      pub count-flattened_terms : (ms : List (List T)) → AreOdd ms → signed_count eq (flattened_terms ms) v ≡ nested_count eq ms v
      count-flattened_terms [] h = refl
      count-flattened_terms (m ∷ ms) h =
          signed_count-append m (flattened_after_add ms) (All-head (λ k. length k % 2 ≡ 1) m ms h)
          ∙ ap (λ z. signed_count eq m v -ℤ z) (count-flattened_after_add ms (All-tail (λ k. length k % 2 ≡ 1) m ms h))

      count-flattened_after_add : (ms : List (List T)) → AreOdd ms → signed_count eq (flattened_after_add ms) v ≡ nested_count eq ms v
      count-flattened_after_add [] h = refl
      count-flattened_after_add (m ∷ ms) h =
          let odd = All-head (λ k. length k % 2 ≡ 1) m ms h in
          signed_count-append (inverse_terms m) (flattened_terms ms) (omega (arith, length-inverse_terms m, odd))
          ∙ (ap (λ z. z -ℤ signed_count eq (flattened_terms ms) v) (signed_count-inverse_terms m odd)
          ∙ ap (λ z. signed_count eq m v -ℤ z) (count-flattened_terms ms (All-tail (λ k. length k % 2 ≡ 1) m ms h)))

-- loop step of `append_inverse`
pub inverse_more : {T : Type 0} (left rest xs next all : List T) (r a first : T) → left ≡ r ∷ a ∷ rest → next ≡ xs ++ a ∷ r ∷ [] → xs ++ (swap_pairs left ++ first ∷ []) ≡ all
    → next ++ (swap_pairs rest ++ first ∷ []) ≡ all
inverse_more left rest xs next all r a first taken pushed h =
    let after = swap_pairs rest ++ first ∷ [] in
    ap (λ ys. ys ++ after) pushed ∙ (append_assoc xs (a ∷ r ∷ []) after ∙ (ap (λ ys. xs ++ (swap_pairs ys ++ first ∷ [])) (sym taken) ∙ h))
