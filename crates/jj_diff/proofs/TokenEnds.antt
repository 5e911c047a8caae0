-- Ends of tokens, one more byte at a time.
use Rattle.std.proofs.Common.{◌≡◌, ℕ, ◌+◌, suc, zero, Bool, true, false, List, [], ◌∷◌, ◌++◌, refl, ap, ◌∙◌, arith, cond}
use Rattle.std.specs.List.{range_with_len, filter}

range_with_len-push : (a n : ℕ) → range_with_len a (suc n) ≡ range_with_len a n ++ (a + n) ∷ []
range_with_len-push a zero = ap (λ k. k ∷ []) (omega arith)
range_with_len-push a (suc n) = ap (λ ks. a ∷ ks) (range_with_len-push (a + 1) n ∙ ap (λ k. range_with_len (a + 1) n ++ k ∷ []) (omega arith))

filter-push_yes : (p : ℕ → Bool) (xs : List ℕ) (x : ℕ) → p x ≡ true → filter p (xs ++ x ∷ []) ≡ filter p xs ++ x ∷ []
filter-push_yes p [] x e = rw e refl
filter-push_yes p (y ∷ xs) x e =
    let P : Bool → Type 0 = λ b. cond b (y ∷ filter p (xs ++ x ∷ [])) (filter p (xs ++ x ∷ [])) ≡ cond b (y ∷ filter p xs) (filter p xs) ++ x ∷ [] in
    elim (p y) as P [ true ↦ ap (λ ys. y ∷ ys) (filter-push_yes p xs x e) | false ↦ filter-push_yes p xs x e ]

filter-push_no : (p : ℕ → Bool) (xs : List ℕ) (x : ℕ) → p x ≡ false → filter p (xs ++ x ∷ []) ≡ filter p xs
filter-push_no p [] x e = rw e refl
filter-push_no p (y ∷ xs) x e =
    let P : Bool → Type 0 = λ b. cond b (y ∷ filter p (xs ++ x ∷ [])) (filter p (xs ++ x ∷ [])) ≡ cond b (y ∷ filter p xs) (filter p xs) in
    elim (p y) as P [ true ↦ ap (λ ys. y ∷ ys) (filter-push_no p xs x e) | false ↦ filter-push_no p xs x e ]

range-more : (n : ℕ) → range_with_len 1 (n + 1) ≡ range_with_len 1 n ++ (n + 1) ∷ []
range-more n =
    let e : n + 1 ≡ suc n = omega arith in
    let f : 1 + n ≡ n + 1 = omega arith in
    ap (range_with_len 1) e ∙ range_with_len-push 1 n ∙ ap (λ k. range_with_len 1 n ++ k ∷ []) f

-- the next index ends a token
pub ends_more : (p : ℕ → Bool) (n : ℕ) → p (n + 1) ≡ true
    → filter p (range_with_len 1 (n + 1)) ≡ filter p (range_with_len 1 n) ++ (n + 1) ∷ []
ends_more p n e = ap (filter p) (range-more n) ∙ filter-push_yes p (range_with_len 1 n) (n + 1) e

-- the next index does not
pub ends_same : (p : ℕ → Bool) (n : ℕ) → p (n + 1) ≡ false
    → filter p (range_with_len 1 (n + 1)) ≡ filter p (range_with_len 1 n)
ends_same p n e = ap (filter p) (range-more n) ∙ filter-push_no p (range_with_len 1 n) (n + 1) e

pub ruleset ends_steps = (ends_more, ends_same)
