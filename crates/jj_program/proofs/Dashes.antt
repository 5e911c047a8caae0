-- Splitting the fields of a line at its only dash.
use Rattle.std.proofs.Common.{◌≡◌, ◌+◌, ◌<◌, ℕ, List, [], ◌∷◌, Bool, true, false, not, cond, length, get_or, map, take, Bor, sym, ◌∙◌, ap, refl, arith}
use Rattle.std.specs.List.{count_by, position_or_len}
use Rattle.std.proofs.lemmas.List.{get_or-map, length-map, take_more}
use Rattle.std.proofs.lemmas.List.Sums.{sum_by-cons, sum_by_push}
use Rattle.jj_program.specs.Forms.{is_dash}

-- if the count is one, the first index that passes is below the length
pub counted_within : {X : Type 0} (p : X → Bool) (xs : List X) → count_by p xs ≡ 1 → position_or_len p xs < length xs
counted_within p [] one = omega arith
counted_within p (x ∷ xs) one =
    let whole : count_by p (x ∷ xs) ≡ cond (p x) 1 0 + count_by p xs = sum_by-cons (λ y. cond (p y) 1 0) x xs in
    let P : Bool → Type 0 = λ t. p x ≡ t → cond (not t) (1 + position_or_len p xs) 0 < length (x ∷ xs) in
    elim (p x) as P [
      | true ↦ λ e. omega arith
      | false ↦ λ e.
          let rest : count_by p xs ≡ 1 = let none : cond {A = ℕ} (p x) 1 0 ≡ 0 = ap (λ t. cond {A = ℕ} t 1 0) e in omega (arith, whole, one, none) in
          let later = counted_within p xs rest in
          omega (arith, later)
    ] refl

module _ (fields : List (Bor (List ℕ))) where
  -- a field after the test
  pub tested : (i : ℕ) (d : Bor (List ℕ)) → i < length fields → (b : Bool) → b ≡ is_dash (get_or fields i d).now → is_dash (get_or (map (λ field. field.now) fields) i []) ≡ b
  tested i d within b is = ap is_dash (get_or-map (λ (field : Bor (List ℕ)). field.now) fields i d [] within) ∙ sym is

  -- one more field is counted
  pub counted_more : (i : ℕ) (d : Bor (List ℕ)) → i < length fields → (n m : ℕ) (b : Bool) → n ≡ count_by is_dash (take i (map (λ field. field.now) fields)) → b ≡ is_dash (get_or fields i d).now
      → m ≡ n + cond b 1 0 → m ≡ count_by is_dash (take (i + 1) (map (λ field. field.now) fields))
  counted_more i d within n m b so_far is more =
      let all : List (List ℕ) = map (λ (field : Bor (List ℕ)). field.now) fields in
      let inside : i < length all = omega (arith, length-map fields (λ (field : Bor (List ℕ)). field.now)) in
      let step = take_more all i [] inside in
      let sum = sum_by_push (λ y. cond (is_dash y) 1 0) (take i all) (get_or all i []) in
      let last : cond {A = ℕ} (is_dash (get_or all i [])) 1 0 ≡ cond {A = ℕ} b 1 0 = ap (λ t. cond {A = ℕ} t 1 0) (tested i d within b is) in
      let whole : count_by is_dash (take (i + 1) all) ≡ count_by is_dash (take i all) + cond (is_dash (get_or all i [])) 1 0 = ap (count_by is_dash) step ∙ sum in
      omega (arith, so_far, more, whole, last)
