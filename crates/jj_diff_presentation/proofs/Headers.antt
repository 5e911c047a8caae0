-- Hunk headers as they are read back.
use Rattle.std.proofs.Common.{◌≡◌, ℕ, ◌+◌, ◌-◌, ◌^◌, ◌<◌, ◌≤◌, Bool, true, false, cond, ◌||◌, ◌==◌, nat_eq, nat_lt, List, [], ◌∷◌, ◌++◌, length, take, drop, Some, None, codes, refl, sym, ap, ◌∙◌, rules, arith, le-ltb, eq-eqb, ne_eqb, append_assoc, append-nil, inl, inr}
use Rattle.std.proofs.lemmas.Bool.{cases_eq, and_parts}
use Rattle.std.proofs.lemmas.List.{take_at, drop_at}
use Rattle.std.proofs.lemmas.Fmt.{digits_decimal, digits_value-decimal, length-decimal-le, decimal_nonempty}
use Rattle.std.proofs.lemmas.Str.Parse.{IsNumeralModel, numerals_by_fold}
use Rattle.std.specs.Char.{is_ascii_digit}
use Rattle.std.specs.Fmt.{decimal}
use Rattle.std.specs.List.{prefix_len, starts_with}
use Rattle.std.specs.Str.{all_ascii_digits}
use Rattle.std.specs.declared.ops.Range.{Range}
use Rattle.jj_diff_presentation.specs.PatchText.{range_text, header_text}
use Rattle.jj_diff_presentation.specs.Applying.{digits_after, number_of_len, number, len_after, start_after, range, lines_before, right_after, left_after, header}
use Rattle.jj_diff_presentation.proofs.Booleans.{cond_true, cond_false}

pub own : IsNumeralModel (λ ds. all_ascii_digits ds ≡ true) (digits_after 0)
own = numerals_by_fold _ (search rules) digits_after (search rules)

-- no digit follows
abbrev pub NoDigit : List ℕ → Type 0
NoDigit rest = prefix_len is_ascii_digit rest ≡ 0

prefix_of_digits : (ds rest : List ℕ) → all_ascii_digits ds ≡ true → NoDigit rest
    → prefix_len is_ascii_digit (ds ++ rest) ≡ length ds
prefix_of_digits [] rest all none = none
prefix_of_digits (d ∷ ds) rest all none =
    let p : (is_ascii_digit d ≡ true) × (all_ascii_digits ds ≡ true)
    = and_parts (is_ascii_digit d) (all_ascii_digits ds) all in
    cond_true (is_ascii_digit d) (1 + prefix_len is_ascii_digit (ds ++ rest)) 0 p.0
    ∙ omega (arith, prefix_of_digits ds rest p.1 none)

either_false : (a b : Bool) → a ≡ false → b ≡ false → (a || b) ≡ false
either_false a b e f = ap (λ c. c || b) e ∙ f

number_read : (n : ℕ) (rest : List ℕ) → n < 10 ^ 19 → NoDigit rest
    → number (decimal n ++ rest) ≡ Some (n, rest)
number_read n rest lt none =
    let small : n < 2 ^ 64 = omega arith in
    let ds : List ℕ = decimal n in
    let len : prefix_len is_ascii_digit (ds ++ rest) ≡ length ds
    = prefix_of_digits ds rest (digits_decimal own n small) none in
    let some : 0 < length ds = decimal_nonempty n small in
    let short : length ds ≤ 19 = length-decimal-le 19 n (omega arith) lt small in
    ap (λ k. number_of_len k (ds ++ rest)) len
    ∙ cond_false (length ds == 0 || nat_lt 19 (length ds)) None
    (Some (digits_after 0 (take (length ds) (ds ++ rest)), drop (length ds) (ds ++ rest)))
    (either_false (length ds == 0) (nat_lt 19 (length ds))
    (ne_eqb (length ds) 0 (λ e. omega (arith, some, e))) (le-ltb 19 (length ds) short))
    ∙ ap (λ x. Some (digits_after 0 x, drop (length ds) (ds ++ rest)))
    (take_at ds rest (length ds) refl)
    ∙ ap (λ x. Some (digits_after 0 ds, x)) (drop_at ds rest (length ds) refl)
    ∙ ap (λ x. Some (x, rest)) (digits_value-decimal own n small)

abbrev pub first_of_range : ℕ → ℕ → ℕ
first_of_range start len = cond (len == 0) start (start + 1)

range_read : (start len : ℕ) (rest : List ℕ) → start + 1 < 10 ^ 19 → len < 10 ^ 19 → NoDigit rest
    → starts_with nat_eq rest (44 ∷ []) ≡ false
    → range (range_text start len ++ rest)
    ≡ Some (record { start = first_of_range start len; len = len; rest = rest })
range_read start len rest ls ll none comma =
    let first : ℕ = first_of_range start len in
    let small : first < 10 ^ 19
    = elim (cases_eq len 0) [
      | inl e ↦ omega (arith, cond_true (len == 0) start (start + 1) (eq-eqb len 0 e))
      | inr n ↦ omega (arith, cond_false (len == 0) start (start + 1) (ne_eqb len 0 n))
    ] in
    elim (cases_eq len 1) [
      | inl e ↦
          ap range (ap (λ t. (decimal first ++ t) ++ rest)
          (cond_true (len == 1) [] (44 ∷ decimal len) (eq-eqb len 1 e))
          ∙ ap (λ t. t ++ rest) (append-nil (decimal first)))
          ∙ ap start_after (number_read first rest small none)
          ∙ cond_false (starts_with nat_eq rest (44 ∷ [])) (len_after first (number (drop 1 rest)))
          (Some (record { start = first; len = 1; rest = rest })) comma
          ∙ ap (λ n. Some (record { start = first; len = n; rest = rest })) (sym e)
      | inr n ↦
          ap range (ap (λ t. (decimal first ++ t) ++ rest)
          (cond_false (len == 1) [] (44 ∷ decimal len) (ne_eqb len 1 n))
          ∙ append_assoc (decimal first) (44 ∷ decimal len) rest)
          ∙ ap start_after (number_read first (44 ∷ (decimal len ++ rest)) small refl)
          ∙ ap (len_after first) (number_read len rest ll none)
    ]

before_read : (start len : ℕ) → lines_before (first_of_range start len) len ≡ start
before_read start len =
    elim (cases_eq len 0) [
      | inl e ↦
          cond_true (len == 0) (first_of_range start len) (first_of_range start len - 1)
          (eq-eqb len 0 e)
          ∙ cond_true (len == 0) start (start + 1) (eq-eqb len 0 e)
      | inr n ↦
          cond_false (len == 0) (first_of_range start len) (first_of_range start len - 1)
          (ne_eqb len 0 n)
          ∙ ap (λ k. k - 1) (cond_false (len == 0) start (start + 1) (ne_eqb len 0 n))
          ∙ omega arith
    ]

pub header_read : (left right : Range ℕ) → left.start + 1 < 10 ^ 19 → left.end < 10 ^ 19
    → right.start + 1 < 10 ^ 19 → right.end < 10 ^ 19
    → header (header_text left right)
    ≡ Some (record {
      before = left.start;
      left = left.end - left.start;
      right = right.end - right.start;
    })
header_read left right ls le rs re =
    let ll : ℕ = left.end - left.start in
    let rl : ℕ = right.end - right.start in
    let a : List ℕ = range_text left.start ll in
    let b : List ℕ = range_text right.start rl in
    let tail : List ℕ = codes " @@\n" in
    let regrouped : header_text left right ≡ codes "@@ -" ++ (a ++ (codes " +" ++ (b ++ tail)))
    = append_assoc (codes "@@ -" ++ a ++ codes " +") b tail
    ∙ append_assoc (codes "@@ -" ++ a) (codes " +") (b ++ tail)
    ∙ append_assoc (codes "@@ -") a (codes " +" ++ (b ++ tail)) in
    ap header regrouped
    ∙ ap left_after (range_read left.start ll (codes " +" ++ (b ++ tail)) ls (omega arith) refl refl)
    ∙ ap (right_after (first_of_range left.start ll) ll)
    (range_read right.start rl tail rs (omega arith) refl refl)
    ∙ ap (λ n. Some (record { before = n; left = ll; right = rl })) (before_read left.start ll)
