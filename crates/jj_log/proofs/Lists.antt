-- Lists of numbers: membership, and elements at one index only.
use Rattle.std.proofs.Common.{◌≡◌, ℕ, zero, suc, ◌<◌, ◌==◌, Bool, true, false, List, [], ◌∷◌, get_or, length, refl, sym, ◌∙◌, subst, arith, eqb, ⊎_elim}
use Rattle.std.specs.List.{Contains, list_any}
use Rattle.std.proofs.lemmas.Bool.{or_cases, or_left, or_right}
use Rattle.std.proofs.lemmas.Bool.Decides.{Decides-eqb}
use Rattle.jj_walks.proofs.Expanding.{at_first, first_or_rest, in_rest}

pub nothing : {A B : Type 0} {x : A} → Contains [] x → B
nothing (i, less, e) = absurd (omega arith)

-- a test for equality finds exactly the elements
pub any_from : (xs : List ℕ) (a : ℕ) → Contains xs a → list_any (λ y. y == a) xs ≡ true
any_from [] a h = nothing h
any_from (x ∷ xs) a h =
    ⊎_elim (λ here. or_left (x == a) (list_any (λ y. y == a) xs) ((Decides-eqb x a).1 here)) (λ there. or_right (x == a) (list_any (λ y. y == a) xs) (any_from xs a there)) (first_or_rest x xs a h)

pub any_at : (xs : List ℕ) (a : ℕ) → list_any (λ y. y == a) xs ≡ true → Contains xs a
any_at [] a h = absurd cc
any_at (x ∷ xs) a h =
    ⊎_elim (λ here. subst (λ z. Contains (x ∷ xs) z) ((Decides-eqb x a).0 here) (at_first x xs)) (λ there. in_rest x xs a (any_at xs a there)) (or_cases (x == a) (list_any (λ y. y == a) xs) h)

pub false_from : (b : Bool) → (b ≡ true → ⊥) → b ≡ false
false_from true k = absurd (k refl)
false_from false k = refl

-- in the order of the equality of lists of distinct elements
pub none_from : (xs : List ℕ) (a : ℕ) → list_any (λ y. y == a) xs ≡ false → list_any (eqb a) xs ≡ false
none_from xs a h = false_from (list_any (eqb a) xs) (λ k. absurd (contains xs k))
  where
    turned : (ys : List ℕ) → list_any (eqb a) ys ≡ true → Contains ys a
    turned [] k = absurd cc
    turned (y ∷ ys) k =
        ⊎_elim (λ here. subst (λ z. Contains (y ∷ ys) z) (sym ((Decides-eqb a y).0 here)) (at_first y ys)) (λ there. in_rest y ys a (turned ys there)) (or_cases (a == y) (list_any (eqb a) ys) k)

    contains : (ys : List ℕ) → list_any (eqb a) xs ≡ true → ⊥
    contains ys k = let e = any_from xs a (turned xs k) in cc

-- the element at an index, whatever is read past the end
pub get_other : (l : List ℕ) (k d e : ℕ) → k < length l → get_or l k e ≡ get_or l k d
get_other [] k d e less = absurd (omega (arith, less))
get_other (y ∷ l) zero d e less = refl
get_other (y ∷ l) (suc k) d e less = get_other l k d e (omega (arith, less))

pub none_at : (l : List ℕ) (t : ℕ) → ((k : ℕ) → k < length l → get_or l k 0 ≡ t → ⊥) → Contains l t → ⊥
none_at l t none (k, less, is) = none k less (get_other l k t 0 less ∙ is)
