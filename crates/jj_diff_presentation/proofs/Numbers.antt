-- Numbers in hunk headers, as the code reads them.
use Rattle.std.proofs.Common.{◌≡◌, ℕ, zero, suc, ◌+◌, ◌-◌, ◌*◌, ◌^◌, ◌<◌, ◌≤◌, true, List, [], ◌∷◌, length, take, drop, get_or, refl, sym, ap, ◌∙◌, arith, inl, inr, add-one}
use Rattle.std.proofs.lemmas.Bool.{and_parts, and_from, cases_Bool}
use Rattle.std.proofs.Math.Nat.{pow-suc, pow-le-pow_right}
use Rattle.std.proofs.lemmas.List.{at_drop_more, at_drop_all}
use Rattle.std.proofs.lemmas.Bool.Decides.{nat_tests}
use Rattle.std.specs.Char.{is_ascii_digit}
use Rattle.std.specs.List.{prefix_len, list_all}
use Rattle.jj_diff_presentation.specs.Applying.{digits_after}
use Rattle.jj_diff_presentation.proofs.Booleans.{cond_true, cond_false}

digit_at : (ds : List ℕ) (i : ℕ) → list_all is_ascii_digit ds ≡ true → i < length ds
    → is_ascii_digit (get_or ds i 0) ≡ true
digit_at [] i all lt = absurd (omega arith)
digit_at (d ∷ ds) zero all lt = (and_parts (is_ascii_digit d) (list_all is_ascii_digit ds) all).0
digit_at (d ∷ ds) (suc i) all lt =
    digit_at ds i (and_parts (is_ascii_digit d) (list_all is_ascii_digit ds) all).1 (omega arith)

digit_bounded : (d : ℕ) → is_ascii_digit d ≡ true → d ≤ 57
digit_bounded d e = grind (arith, nat_tests)

pub digit_small : (ds : List ℕ) (i : ℕ) → list_all is_ascii_digit ds ≡ true → i < length ds
    → get_or ds i 0 - 48 ≤ 9
digit_small ds i all lt = omega (arith, digit_bounded (get_or ds i 0) (digit_at ds i all lt))

pub digits_fit : (value i : ℕ) → value < 10 ^ i → i < 19
    → value * 10 + 9 < 18446744073709551616
digits_fit value i bounded lt =
    let le : 10 ^ i ≤ 10 ^ 18 = pow-le-pow_right {n = 10} (omega arith) {i = i} {j = 18} (omega arith)
    in
    omega (arith, le, bounded)

-- one digit more
pub digit_read : (ds : List ℕ) (i value total : ℕ) → list_all is_ascii_digit ds ≡ true
    → i < length ds → digits_after value (drop i ds) ≡ total → value < 10 ^ i
    → (digits_after (value * 10 + (get_or ds i 0 - 48)) (drop (i + 1) ds) ≡ total)
    × (value * 10 + (get_or ds i 0 - 48) < 10 ^ (i + 1))
digit_read ds i value total all lt inv bounded =
    let d : get_or ds i 0 ≤ 57 = digit_bounded (get_or ds i 0) (digit_at ds i all lt) in
    let next : 10 ^ (i + 1) ≡ 10 ^ i * 10 = rw add-one (pow-suc 10 i) in
    (sym (at_drop_more (digits_after value) ds i 0 lt) ∙ inv, omega (arith, d, next, bounded))

pub digits_read : (ds : List ℕ) (i value total : ℕ) → length ds ≤ i
    → digits_after value (drop i ds) ≡ total → value ≡ total
digits_read ds i value total le inv = sym (at_drop_all (digits_after value) ds i le) ∙ inv

first_digit : (b n : ℕ) (bs : List ℕ) → is_ascii_digit b ≡ true
    → list_all is_ascii_digit (take n bs) ≡ true
    → list_all is_ascii_digit (take (1 + n) (b ∷ bs)) ≡ true
first_digit b n bs t all =
    let e : 1 + n ≡ suc n = omega arith in
    ap (λ k. list_all is_ascii_digit (take k (b ∷ bs))) e
    ∙ and_from (is_ascii_digit b) (list_all is_ascii_digit (take n bs)) t all

-- the first digits are digits
pub all_digits : (text : List ℕ)
    → list_all is_ascii_digit (take (prefix_len is_ascii_digit text) text) ≡ true
all_digits [] = refl
all_digits (b ∷ bs) =
    elim (cases_Bool (is_ascii_digit b)) [
      | inl t ↦
          ap (λ n. list_all is_ascii_digit (take n (b ∷ bs)))
          (cond_true (is_ascii_digit b) (1 + prefix_len is_ascii_digit bs) 0 t)
          ∙ first_digit b (prefix_len is_ascii_digit bs) bs t (all_digits bs)
      | inr f ↦
          ap (λ n. list_all is_ascii_digit (take n (b ∷ bs)))
          (cond_false (is_ascii_digit b) (1 + prefix_len is_ascii_digit bs) 0 f)
    ]
