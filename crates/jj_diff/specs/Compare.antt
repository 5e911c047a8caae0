-- Laws of comparisons of byte strings by a canonical form: strings of equal parts are equal.
use Rattle.std.specs.Prelude.{◌≡◌, ℕ, ◌++◌, Bool, true, false, List, [], ◌∷◌, not, if◌then◌else◌}
use Rattle.std.specs.Char.{is_ascii_whitespace}
use Rattle.std.proofs.Common.{refl, ap, sym, ◌∙◌}
use Rattle.std.proofs.lemmas.List.Elements.{filter-append}
use Rattle.jj_diff.specs.Whitespace.{without_whitespace, add_spaced, spaced, with_single_spaces, ends_in_space}

pub joins_exactly : (x y z w : List ℕ) → x ≡ y → z ≡ w → x ++ z ≡ y ++ w
joins_exactly x y z w e f = ap (λ xs. xs ++ z) e ∙ ap (λ zs. y ++ zs) f

pub joins_without_whitespace : (x y z w : List ℕ)
    → without_whitespace x ≡ without_whitespace y → without_whitespace z ≡ without_whitespace w
    → without_whitespace (x ++ z) ≡ without_whitespace (y ++ w)
joins_without_whitespace x y z w e f =
    filter-append (λ byte. not (is_ascii_whitespace byte)) x z
    ∙ joins_exactly _ _ _ _ e f
    ∙ sym (filter-append (λ byte. not (is_ascii_whitespace byte)) y w)

-- white space or another byte before x, and before x followed by y
abbrev Adds : Bool → ℕ → List ℕ → List ℕ → Bool → Type 0
Adds after byte xs ys is_space =
    (if is_space then (if after then (xs ++ ys) else (32 ∷ (xs ++ ys))) else (byte ∷ (xs ++ ys)))
    ≡ (if is_space then (if after then xs else (32 ∷ xs)) else (byte ∷ xs)) ++ ys

add_append : (after : Bool) (byte : ℕ) (xs ys : List ℕ)
    → add_spaced after byte (xs ++ ys) ≡ add_spaced after byte xs ++ ys
add_append after byte xs ys = elim (is_ascii_whitespace byte) as (Adds after byte xs ys) [
  | true ↦ elim after as (λ a. Adds a byte xs ys true) [ true ↦ refl | false ↦ refl ]
  | false ↦ refl
]

pub spaced-append : (after : Bool) (xs ys : List ℕ)
    → spaced after (xs ++ ys) ≡ spaced after xs ++ spaced (ends_in_space after xs) ys
spaced-append after [] ys = refl
spaced-append after (x ∷ xs) ys =
    ap (add_spaced after x) (spaced-append (is_ascii_whitespace x) xs ys)
    ∙ add_append after x _ _

abbrev EndsSame : Bool → ℕ → List ℕ → Bool → Type 0
EndsSame after x xs b = is_ascii_whitespace x ≡ b
    → ends_in_space b xs ≡ ends_in_space b (spaced b xs)
    → ends_in_space b xs ≡ ends_in_space after
    (if b then (if after then spaced b xs else (32 ∷ spaced b xs)) else (x ∷ spaced b xs))

-- bytes and their canonical form both end in white space or not
ends_same : (after : Bool) (xs : List ℕ)
    → ends_in_space after xs ≡ ends_in_space after (spaced after xs)
ends_same after [] = refl
ends_same after (x ∷ xs) = elim (is_ascii_whitespace x) as (EndsSame after x xs) [
  | true ↦ elim after as (λ a. EndsSame a x xs true) [ true ↦ λ e f. f | false ↦ λ e f. f ]
  | false ↦ λ e f. f ∙ ap (λ b. ends_in_space b (spaced false xs)) (sym e)
] refl (ends_same (is_ascii_whitespace x) xs)

-- a canonical form without a space at its start
abbrev strip : List ℕ → List ℕ
strip [] = []
strip (x ∷ xs) = if is_ascii_whitespace x then xs else (x ∷ xs)

abbrev Strips : ℕ → List ℕ → Bool → Type 0
Strips x xs b = is_ascii_whitespace x ≡ b → (if b then spaced b xs else (x ∷ spaced b xs))
    ≡ strip (if b then (32 ∷ spaced b xs) else (x ∷ spaced b xs))

strip_spaced : (xs : List ℕ) → spaced true xs ≡ strip (spaced false xs)
strip_spaced [] = refl
strip_spaced (x ∷ xs) = elim (is_ascii_whitespace x) as (Strips x xs) [
  | true ↦ λ e. refl
  | false ↦ λ e. sym (ap (λ b. if b then (spaced false xs) else (x ∷ spaced false xs)) e)
] refl

after_same : (after : Bool) (z w : List ℕ) → spaced false z ≡ spaced false w
    → spaced after z ≡ spaced after w
after_same true z w e = strip_spaced z ∙ ap strip e ∙ sym (strip_spaced w)
after_same false z w e = e

pub joins_spaced : (x y z w : List ℕ)
    → with_single_spaces x ≡ with_single_spaces y → with_single_spaces z ≡ with_single_spaces w
    → with_single_spaces (x ++ z) ≡ with_single_spaces (y ++ w)
joins_spaced x y z w e f =
    spaced-append false x z
    ∙ ap (λ a. spaced false x ++ spaced a z) (
    ends_same false x ∙ ap (ends_in_space false) e ∙ sym (ends_same false y))
    ∙ joins_exactly _ _ _ _ e (after_same (ends_in_space false y) z w f)
    ∙ sym (spaced-append false y w)
