-- Proofs about hex: the digits are distinct, so decoding is the inverse of encoding.
use Rattle.std.proofs.Common.{◌≡◌, ℕ, ◌+◌, ◌*◌, ◌/◌, ◌%◌, ◌<◌, ◌≤◌, List, [], ◌∷◌, ◌++◌, length, get_or, take, drop, All, Option, Some, None, true, false, eqb, refl, sym, ap, ◌∙◌, arith, lit<, lit≤, suc, zero, map, min, inl, inr, ◌≢◌}
use Rattle.std.specs.Prelude.{position, nat_eq, ◌&&◌}
use Rattle.std.specs.Str.{str_to_ascii_lowercase, IsAscii}
use Rattle.std.proofs.lemmas.Str.Ascii.{IsAscii-nil, IsAscii-cons, IsAscii-from_reads}
use Rattle.std.specs.Char.{to_ascii_lowercase}
use Rattle.std.specs.List.{list_all, common_prefix_len}
use Rattle.std.specs.Option.{is_some}
use Rattle.std.proofs.lemmas.List.{map-append, length-map, drop_more, drop_all}
use Rattle.std.proofs.lemmas.List.Concat.{flat_map-append}
use Rattle.std.proofs.lemmas.List.Elements.{All-nil, All-push, All-head, All-tail, All-append}
use Rattle.std.proofs.lemmas.Bool.{eqb-true, eq-eqb, cases_lt, and_parts}
use Rattle.std.proofs.lemmas.Bool.Decides.{eqb_tells}
use Rattle.std.proofs.lemmas.List.Quantifiers.{position-Some}
use Rattle.jj_content.specs.Hex.{IsByte, hex_digits, reverse_hex_digits, digit_pair, encode_with, DecodesTo, digit_value, is_hex, is_whole_hex}

-- sixteen distinct lower-case digits
pub record AreDigits (digits : List ℕ) : Type 0 where
  pub count : length digits ≡ 16
  pub back : (m : ℕ) → m < 16 → digit_value digits (get_or digits m 0) ≡ Some m
  pub lower : (m : ℕ) → m < 16 → to_ascii_lowercase (get_or digits m 0) ≡ get_or digits m 0

-- case analysis of a number below 16
below_sixteen : (P : ℕ → Type 0) → P 0 → P 1 → P 2 → P 3 → P 4 → P 5 → P 6 → P 7 → P 8 → P 9 → P 10 → P 11 → P 12 → P 13 → P 14 → P 15 → (m : ℕ) → m < 16 → P m
below_sixteen P a b c d e f g h i j k l n o p q zero _ = a
below_sixteen P a b c d e f g h i j k l n o p q (suc zero) _ = b
below_sixteen P a b c d e f g h i j k l n o p q (suc (suc zero)) _ = c
below_sixteen P a b c d e f g h i j k l n o p q (suc (suc (suc zero))) _ = d
below_sixteen P a b c d e f g h i j k l n o p q (suc (suc (suc (suc zero)))) _ = e
below_sixteen P a b c d e f g h i j k l n o p q (suc (suc (suc (suc (suc zero))))) _ = f
below_sixteen P a b c d e f g h i j k l n o p q (suc (suc (suc (suc (suc (suc zero)))))) _ = g
below_sixteen P a b c d e f g h i j k l n o p q (suc (suc (suc (suc (suc (suc (suc zero))))))) _ = h
below_sixteen P a b c d e f g h i j k l n o p q (suc (suc (suc (suc (suc (suc (suc (suc zero)))))))) _ = i
below_sixteen P a b c d e f g h i j k l n o p q (suc (suc (suc (suc (suc (suc (suc (suc (suc zero))))))))) _ = j
below_sixteen P a b c d e f g h i j k l n o p q (suc (suc (suc (suc (suc (suc (suc (suc (suc (suc zero)))))))))) _ = k
below_sixteen P a b c d e f g h i j k l n o p q (suc (suc (suc (suc (suc (suc (suc (suc (suc (suc (suc zero))))))))))) _ = l
below_sixteen P a b c d e f g h i j k l n o p q (suc (suc (suc (suc (suc (suc (suc (suc (suc (suc (suc (suc zero)))))))))))) _ = n
below_sixteen P a b c d e f g h i j k l n o p q (suc (suc (suc (suc (suc (suc (suc (suc (suc (suc (suc (suc (suc zero))))))))))))) _ = o
below_sixteen P a b c d e f g h i j k l n o p q (suc (suc (suc (suc (suc (suc (suc (suc (suc (suc (suc (suc (suc (suc zero)))))))))))))) _ = p
below_sixteen P a b c d e f g h i j k l n o p q (suc (suc (suc (suc (suc (suc (suc (suc (suc (suc (suc (suc (suc (suc (suc zero))))))))))))))) _ = q
below_sixteen P a b c d e f g h i j k l n o p q (suc (suc (suc (suc (suc (suc (suc (suc (suc (suc (suc (suc (suc (suc (suc (suc m)))))))))))))))) small = absurd (omega arith)

pub are_hex_digits : AreDigits hex_digits
are_hex_digits = record {
  count = refl;
  back = below_sixteen (λ m. digit_value hex_digits (get_or hex_digits m 0) ≡ Some m) refl refl refl refl refl refl refl refl refl refl refl refl refl refl refl refl;
  lower = below_sixteen (λ m. to_ascii_lowercase (get_or hex_digits m 0) ≡ get_or hex_digits m 0) refl refl refl refl refl refl refl refl refl refl refl refl refl refl refl refl;
}

pub are_reverse_hex_digits : AreDigits reverse_hex_digits
are_reverse_hex_digits = record {
  count = refl;
  back = below_sixteen (λ m. digit_value reverse_hex_digits (get_or reverse_hex_digits m 0) ≡ Some m) refl refl refl refl refl refl refl refl refl refl refl refl refl refl refl refl;
  lower = below_sixteen (λ m. to_ascii_lowercase (get_or reverse_hex_digits m 0) ≡ get_or reverse_hex_digits m 0) refl refl refl refl refl refl refl refl refl refl refl refl refl refl refl refl;
}

pub encode_with-append : (digits xs ys : List ℕ) → encode_with digits (xs ++ ys) ≡ encode_with digits xs ++ encode_with digits ys
unfolding encode_with
encode_with-append digits xs ys = flat_map-append (digit_pair digits) xs ys

pub encode_with-nil : (digits : List ℕ) → encode_with digits [] ≡ []
unfolding encode_with
encode_with-nil digits = refl

pub encode_with-cons : (digits : List ℕ) (x : ℕ) (xs : List ℕ) → encode_with digits (x ∷ xs) ≡ get_or digits (x / 16) 0 ∷ get_or digits (x % 16) 0 ∷ encode_with digits xs
unfolding encode_with
encode_with-cons digits x xs = refl

pub length-encode_with : (digits xs : List ℕ) → length (encode_with digits xs) ≡ 2 * length xs
length-encode_with digits [] = ap length (encode_with-nil digits)
length-encode_with digits (x ∷ xs) = let h : length (encode_with digits xs) ≡ 2 * length xs = length-encode_with digits xs in rw encode_with-cons (omega arith)

-- the digit with value v is the lower-case form of the character
pub digit_value-Some : (digits : List ℕ) (c v : ℕ) → AreDigits digits → digit_value digits c ≡ Some v → (v < 16) × (get_or digits v 0 ≡ to_ascii_lowercase c)
digit_value-Some digits c v are is =
    let found = position-Some (λ digit. eqb digit (to_ascii_lowercase c)) digits v 0 is in
    (omega (arith, found.0, are.count), eqb-true (get_or digits v 0) (to_ascii_lowercase c) found.1)

pub digit_value-same : (digits : List ℕ) (a b : ℕ) → to_ascii_lowercase a ≡ to_ascii_lowercase b → digit_value digits a ≡ digit_value digits b
digit_value-same digits a b e = ap (λ (c : ℕ). position (λ digit. eqb digit c) digits) e

pub DecodesTo-nil : (digits : List ℕ) → DecodesTo digits [] []
DecodesTo-nil digits = record { bytes_fit = All-nil IsByte; same = sym (encode_with-nil digits) }

-- two more digits, one more byte
pub DecodesTo-push : (digits text bytes : List ℕ) (a b high low : ℕ) → AreDigits digits → DecodesTo digits text bytes → digit_value digits a ≡ Some high → digit_value digits b ≡ Some low
    → DecodesTo digits (text ++ a ∷ b ∷ []) (bytes ++ (high * 16 + low) ∷ [])
DecodesTo-push digits text bytes a b high low are reads is_high is_low =
    let h = digit_value-Some digits a high are is_high in
    let l = digit_value-Some digits b low are is_low in
    let quotient : (high * 16 + low) / 16 ≡ high = omega (arith, l.0) in
    let remainder : (high * 16 + low) % 16 ≡ low = omega (arith, l.0) in
    let fits : high * 16 + low < 256 = omega (arith, h.0, l.0) in
    record {
      bytes_fit = All-push IsByte bytes (high * 16 + low) reads.bytes_fit fits;
      same = rw (map-append to_ascii_lowercase text (a ∷ b ∷ []), encode_with-append digits bytes ((high * 16 + low) ∷ []), encode_with-cons digits (high * 16 + low) [], encode_with-nil digits, quotient, remainder, reads.same, h.1, l.1) refl;
    }

-- each character of a string that decodes is a digit
digit_at : (digits text bytes : List ℕ) (k : ℕ) → AreDigits digits → All IsByte bytes → str_to_ascii_lowercase text ≡ encode_with digits bytes → k < length text → digit_value digits (get_or text k 0) ≡ None → ⊥
digit_at digits [] bytes k are fit same within none = absurd (omega arith)
digit_at digits (t ∷ ts) [] k are fit same within none = let e = encode_with-nil digits in cc
digit_at digits (t ∷ []) (b ∷ bs) k are fit same within none = let e = encode_with-cons digits b bs in cc
digit_at digits (t ∷ u ∷ ts) (b ∷ bs) zero are fit same within none =
    let small : b < 256 = All-head IsByte b bs fit in
    let e = encode_with-cons digits b bs in
    let first : to_ascii_lowercase t ≡ get_or digits (b / 16) 0 = cc in
    let low = are.lower (b / 16) (omega arith) in
    let found = are.back (b / 16) (omega arith) in
    let same_value = digit_value-same digits t (get_or digits (b / 16) 0) (first ∙ sym low) in
    cc
digit_at digits (t ∷ u ∷ ts) (b ∷ bs) (suc zero) are fit same within none =
    let e = encode_with-cons digits b bs in
    let second : to_ascii_lowercase u ≡ get_or digits (b % 16) 0 = cc in
    let low = are.lower (b % 16) (omega arith) in
    let found = are.back (b % 16) (omega arith) in
    let same_value = digit_value-same digits u (get_or digits (b % 16) 0) (second ∙ sym low) in
    cc
digit_at digits (t ∷ u ∷ ts) (b ∷ bs) (suc (suc k)) are fit same within none =
    let e = encode_with-cons digits b bs in
    let rest : str_to_ascii_lowercase ts ≡ encode_with digits bs = cc in
    digit_at digits ts bs k are (All-tail IsByte b bs fit) rest (omega arith) none

pub DecodesTo-digit : (digits text bytes : List ℕ) (k : ℕ) → AreDigits digits → DecodesTo digits text bytes → k < length text → digit_value digits (get_or text k 0) ≡ None → ⊥
DecodesTo-digit digits text bytes k are reads within none = digit_at digits text bytes k are reads.bytes_fit reads.same within none

pub DecodesTo-length : (digits text bytes : List ℕ) → DecodesTo digits text bytes → length text ≡ 2 * length bytes
DecodesTo-length digits text bytes reads =
    sym (length-map text to_ascii_lowercase) ∙ ap length reads.same ∙ length-encode_with digits bytes

pub encode_with-injective : (digits xs ys : List ℕ) → AreDigits digits → All IsByte xs → All IsByte ys → encode_with digits xs ≡ encode_with digits ys → xs ≡ ys
encode_with-injective digits [] [] are x y e = refl
encode_with-injective digits [] (b ∷ ys) are x y e = let l = encode_with-nil digits in let r = encode_with-cons digits b ys in cc
encode_with-injective digits (a ∷ xs) [] are x y e = let l = encode_with-nil digits in let r = encode_with-cons digits a xs in cc
encode_with-injective digits (a ∷ xs) (b ∷ ys) are x y e =
    let l = encode_with-cons digits a xs in
    let r = encode_with-cons digits b ys in
    let small_a : a < 256 = All-head IsByte a xs x in
    let small_b : b < 256 = All-head IsByte b ys y in
    let high_a = are.back (a / 16) (omega arith) in
    let high_b = are.back (b / 16) (omega arith) in
    let low_a = are.back (a % 16) (omega arith) in
    let low_b = are.back (b % 16) (omega arith) in
    let high_text : get_or digits (a / 16) 0 ≡ get_or digits (b / 16) 0 = cc in
    let low_text : get_or digits (a % 16) 0 ≡ get_or digits (b % 16) 0 = cc in
    let high_same = ap (digit_value digits) high_text in
    let low_same = ap (digit_value digits) low_text in
    let high : a / 16 ≡ b / 16 = cc in
    let low : a % 16 ≡ b % 16 = cc in
    let heads : a ≡ b = omega arith in
    let rest : encode_with digits xs ≡ encode_with digits ys = cc in
    let tails = encode_with-injective digits xs ys are (All-tail IsByte a xs x) (All-tail IsByte b ys y) rest in
    cc

-- a string decodes to at most one list of bytes
pub DecodesTo-unique : (digits text xs ys : List ℕ) → AreDigits digits → DecodesTo digits text xs → DecodesTo digits text ys → xs ≡ ys
DecodesTo-unique digits text xs ys are x y = encode_with-injective digits xs ys are x.bytes_fit y.bytes_fit (sym x.same ∙ y.same)

-- the encoding of bytes decodes to them
pub DecodesTo-encode_with : (digits bytes : List ℕ) → AreDigits digits → All IsByte bytes → DecodesTo digits (encode_with digits bytes) bytes
DecodesTo-encode_with digits bytes are fit = record { bytes_fit = fit; same = lower_text digits bytes are fit }
  where
    lower_text : (digits bytes : List ℕ) → AreDigits digits → All IsByte bytes → map to_ascii_lowercase (encode_with digits bytes) ≡ encode_with digits bytes
    lower_text digits [] are fit = rw encode_with-nil refl
    lower_text digits (b ∷ bs) are fit =
        let small : b < 256 = All-head IsByte b bs fit in
        let h = are.lower (b / 16) (omega arith) in
        let l = are.lower (b % 16) (omega arith) in
        let rest = lower_text digits bs are (All-tail IsByte b bs fit) in
        rw encode_with-cons (cc)

-- equal bytes have equal digits
common_pair : (h l : ℕ) (xs ys : List ℕ) → common_prefix_len nat_eq (h ∷ l ∷ xs) (h ∷ l ∷ ys) ≡ 2 + common_prefix_len nat_eq xs ys
common_pair h l xs ys = let e = eq-eqb h h refl in let f = eq-eqb l l refl in rw (e, f) (omega arith)

pub common_prefix_len-prefix : (digits xs ys : List ℕ) (i : ℕ) → i ≤ length xs → i ≤ length ys → ((k : ℕ) → k < i → get_or xs k 0 ≡ get_or ys k 0)
    → common_prefix_len nat_eq (encode_with digits xs) (encode_with digits ys) ≡ 2 * i + common_prefix_len nat_eq (encode_with digits (drop i xs)) (encode_with digits (drop i ys))
common_prefix_len-prefix digits xs ys zero x y same = omega arith
common_prefix_len-prefix digits [] ys (suc i) x y same = absurd (omega arith)
common_prefix_len-prefix digits (a ∷ xs) [] (suc i) x y same = absurd (omega arith)
common_prefix_len-prefix digits (a ∷ xs) (b ∷ ys) (suc i) x y same =
    let heads : a ≡ b = same 0 (omega arith) in
    let rest = common_prefix_len-prefix digits xs ys i (omega arith) (omega arith) (λ k h. same (suc k) (omega arith)) in
    let pair = common_pair (get_or digits (b / 16) 0) (get_or digits (b % 16) 0) (encode_with digits xs) (encode_with digits ys) in
    rw (heads, encode_with-cons digits b xs, encode_with-cons digits b ys) (pair ∙ omega arith)

pub eqb_differ : (a b : ℕ) → a ≢ b → eqb a b ≡ false
eqb_differ a b differ = elim (eqb_tells a b) [ inl same ↦ absurd (differ same.1) | inr other ↦ other.0 ]

pub digits-injective : (digits : List ℕ) (m n : ℕ) → AreDigits digits → m < 16 → n < 16 → get_or digits m 0 ≡ get_or digits n 0 → m ≡ n
digits-injective digits m n are small_m small_n e =
    let back_m = are.back m small_m in
    let back_n = are.back n small_n in
    let same = ap (digit_value digits) e in
    cc

-- two bytes that differ first in the low digit, or already in the high digit
pub common_prefix_len-low : (digits xs ys : List ℕ) (i : ℕ) → AreDigits digits → i < length xs → i < length ys → get_or xs i 0 < 256 → get_or ys i 0 < 256 → ((k : ℕ) → k < i → get_or xs k 0 ≡ get_or ys k 0)
    → get_or xs i 0 ≢ get_or ys i 0 → get_or xs i 0 / 16 ≡ get_or ys i 0 / 16 → common_prefix_len nat_eq (encode_with digits xs) (encode_with digits ys) ≡ i * 2 + 1
common_prefix_len-low digits xs ys i are x y fit_x fit_y same differ high =
    let a = get_or xs i 0 in
    let b = get_or ys i 0 in
    let prefix = common_prefix_len-prefix digits xs ys i (omega arith) (omega arith) same in
    let e = eq-eqb (get_or digits (a / 16) 0) (get_or digits (b / 16) 0) (ap (λ d. get_or digits d 0) high) in
    let f = eqb_differ (get_or digits (a % 16) 0) (get_or digits (b % 16) 0) (λ l. differ (let low = digits-injective digits (a % 16) (b % 16) are (omega arith) (omega arith) l in omega arith)) in
    let rest : common_prefix_len nat_eq (encode_with digits (drop i xs)) (encode_with digits (drop i ys)) ≡ 1
    = rw (drop_more xs i 0 x, drop_more ys i 0 y, encode_with-cons digits a (drop (i + 1) xs), encode_with-cons digits b (drop (i + 1) ys), e, f) refl in
    omega arith

pub common_prefix_len-high : (digits xs ys : List ℕ) (i : ℕ) → AreDigits digits → i < length xs → i < length ys → get_or xs i 0 < 256 → get_or ys i 0 < 256 → ((k : ℕ) → k < i → get_or xs k 0 ≡ get_or ys k 0)
    → get_or xs i 0 / 16 ≢ get_or ys i 0 / 16 → common_prefix_len nat_eq (encode_with digits xs) (encode_with digits ys) ≡ i * 2
common_prefix_len-high digits xs ys i are x y fit_x fit_y same differ =
    let a = get_or xs i 0 in
    let b = get_or ys i 0 in
    let prefix = common_prefix_len-prefix digits xs ys i (omega arith) (omega arith) same in
    let f = eqb_differ (get_or digits (a / 16) 0) (get_or digits (b / 16) 0) (λ h. differ (digits-injective digits (a / 16) (b / 16) are (omega arith) (omega arith) h)) in
    let rest : common_prefix_len nat_eq (encode_with digits (drop i xs)) (encode_with digits (drop i ys)) ≡ 0
    = rw (drop_more xs i 0 x, drop_more ys i 0 y, encode_with-cons digits a (drop (i + 1) xs), encode_with-cons digits b (drop (i + 1) ys), f) refl in
    omega arith

common_prefix_len-nil : (xs : List ℕ) → common_prefix_len nat_eq xs [] ≡ 0
common_prefix_len-nil [] = refl
common_prefix_len-nil (x ∷ xs) = refl

-- one list of bytes is a prefix of the other
pub common_prefix_len-all : (digits xs ys : List ℕ) (n : ℕ) → n ≡ min (length xs) (length ys) → ((k : ℕ) → k < n → get_or xs k 0 ≡ get_or ys k 0) → common_prefix_len nat_eq (encode_with digits xs) (encode_with digits ys) ≡ n * 2
common_prefix_len-all digits xs ys n is same =
    let prefix = common_prefix_len-prefix digits xs ys n (omega arith) (omega arith) same in
    elim (cases_lt (length xs) (length ys)) [
      | inl shorter ↦
          let rest : common_prefix_len nat_eq (encode_with digits (drop n xs)) (encode_with digits (drop n ys)) ≡ 0 = rw (drop_all n xs (omega arith), encode_with-nil digits) refl in
          omega arith
      | inr longer ↦
          let rest : common_prefix_len nat_eq (encode_with digits (drop n xs)) (encode_with digits (drop n ys)) ≡ 0 = rw (drop_all n ys (omega arith), encode_with-nil digits) (common_prefix_len-nil (encode_with digits (drop n xs))) in
          omega arith
    ]

-- two more digits at the start of a string
pub DecodesTo-cons : (digits text bytes : List ℕ) (a b high low : ℕ) → AreDigits digits → DecodesTo digits text bytes → digit_value digits a ≡ Some high → digit_value digits b ≡ Some low
    → DecodesTo digits (a ∷ b ∷ text) ((high * 16 + low) ∷ bytes)
DecodesTo-cons digits text bytes a b high low are reads is_high is_low =
    let pair = DecodesTo-push digits [] [] a b high low are (DecodesTo-nil digits) is_high is_low in
    record {
      bytes_fit = All-append IsByte ((high * 16 + low) ∷ []) bytes pair.bytes_fit reads.bytes_fit;
      same = rw (encode_with-append digits ((high * 16 + low) ∷ []) bytes, ← pair.same, ← reads.same) refl;
    }

some_value : (o : Option ℕ) → is_some o ≡ true → (v : ℕ) × (o ≡ Some v)
some_value (Some v) is = (v, refl)
some_value None is = cc

-- a string of an even number of digits decodes
pub bytes_of_hex : (digits text : List ℕ) → AreDigits digits → length text % 2 ≡ 0 → list_all (λ c. is_some (digit_value digits c)) text ≡ true → (bytes : List ℕ) × DecodesTo digits text bytes
bytes_of_hex digits [] are even all = ([], DecodesTo-nil digits)
bytes_of_hex digits (a ∷ []) are even all = absurd (omega arith)
bytes_of_hex digits (a ∷ b ∷ text) are even all =
    let first = and_parts (is_some (digit_value digits a)) _ all in
    let second = and_parts (is_some (digit_value digits b)) _ first.1 in
    let high = some_value (digit_value digits a) first.0 in
    let low = some_value (digit_value digits b) second.0 in
    let rest = bytes_of_hex digits text are (omega arith) second.1 in
    ((high.0 * 16 + low.0) ∷ rest.0, DecodesTo-cons digits text rest.0 a b high.0 low.0 are rest.1 high.1 low.1)

some_digit : (o : Option ℕ) → (o ≡ None → ⊥) → is_some o ≡ true
some_digit None some = absurd (some refl)
some_digit (Some v) some = refl

-- `is_hex` is true if every character is a digit
pub all_digits : (digits text : List ℕ) → ((k : ℕ) → k < length text → digit_value digits (get_or text k 0) ≡ None → ⊥) → is_hex digits text ≡ true
all_digits digits [] some = refl
all_digits digits (c ∷ text) some =
    let first : is_some (digit_value digits c) ≡ true = some_digit (digit_value digits c) (some 0 (omega arith)) in
    let rest : is_hex digits text ≡ true = all_digits digits text (λ k h. some (suc k) (omega arith)) in
    rw (first, rest) refl

-- `is_hex` is false if one character is not a digit
pub no_digit : (digits text : List ℕ) (k : ℕ) → k < length text → digit_value digits (get_or text k 0) ≡ None → is_hex digits text ≡ false
no_digit digits [] k within none = absurd (omega arith)
no_digit digits (c ∷ text) zero within none = rw none refl
no_digit digits (c ∷ text) (suc k) within none =
    let rest : is_hex digits text ≡ false = no_digit digits text k (omega arith) none in
    elim (digit_value digits c) as (λ o. (is_some o && is_hex digits text) ≡ false) [ Some v ↦ rest | None ↦ refl ]

-- a string that decodes encodes whole bytes
pub DecodesTo-is_text : (digits text bytes : List ℕ) → AreDigits digits → DecodesTo digits text bytes → is_whole_hex digits text ≡ true
DecodesTo-is_text digits text bytes are reads =
    let even = eq-eqb (length text % 2) 0 (omega (arith, DecodesTo-length digits text bytes reads)) in
    let all = all_digits digits text (λ k h none. DecodesTo-digit digits text bytes k are reads h none) in
    rw (even, all) refl

-- prefixes of an encoding, of an even or odd number of digits
pub take-encode_with : (digits xs : List ℕ) (n : ℕ) → take (2 * n) (encode_with digits xs) ≡ encode_with digits (take n xs)
take-encode_with digits xs zero = sym (encode_with-nil digits)
take-encode_with digits [] (suc n) =
    let e : 2 * suc n ≡ suc (suc (2 * n)) = omega arith in
    rw (encode_with-nil digits, e) refl
take-encode_with digits (x ∷ xs) (suc n) =
    let e : 2 * suc n ≡ suc (suc (2 * n)) = omega arith in
    rw (encode_with-cons digits x xs, encode_with-cons digits x (take n xs), e, take-encode_with digits xs n) refl

pub take-encode_with-half : (digits xs : List ℕ) (n : ℕ) → n < length xs → take (2 * n + 1) (encode_with digits xs) ≡ encode_with digits (take n xs) ++ get_or digits (get_or xs n 0 / 16) 0 ∷ []
take-encode_with-half digits [] n within = absurd (omega arith)
take-encode_with-half digits (x ∷ xs) zero within = rw (encode_with-cons digits x xs, encode_with-nil digits) refl
take-encode_with-half digits (x ∷ xs) (suc n) within =
    let e : 2 * suc n + 1 ≡ suc (suc (2 * n + 1)) = omega arith in
    rw (encode_with-cons digits x xs, encode_with-cons digits x (take n xs), e, take-encode_with-half digits xs n (omega arith)) refl

-- the encoding with ASCII digits is ASCII
pub encode_with-IsAscii : (digits bytes : List ℕ) → IsAscii digits → IsAscii (encode_with digits bytes)
encode_with-IsAscii digits [] ascii = rw (encode_with-nil digits) IsAscii-nil
encode_with-IsAscii digits (b ∷ bs) ascii =
    rw (encode_with-cons digits b bs) (IsAscii-cons (get_or digits (b / 16) 0) (get_or digits (b % 16) 0 ∷ encode_with digits bs) (ascii (b / 16))
    (IsAscii-cons (get_or digits (b % 16) 0) (encode_with digits bs) (ascii (b % 16)) (encode_with-IsAscii digits bs ascii)))

pub hex_digits-IsAscii : IsAscii hex_digits
hex_digits-IsAscii = IsAscii-from_reads hex_digits 16 (lit≤ tt) (below_sixteen (λ k. get_or hex_digits k 0 < 128) (lit< tt) (lit< tt) (lit< tt) (lit< tt) (lit< tt) (lit< tt) (lit< tt) (lit< tt) (lit< tt) (lit< tt) (lit< tt) (lit< tt) (lit< tt) (lit< tt) (lit< tt) (lit< tt))

pub reverse_hex_digits-IsAscii : IsAscii reverse_hex_digits
reverse_hex_digits-IsAscii = IsAscii-from_reads reverse_hex_digits 16 (lit≤ tt) (below_sixteen (λ k. get_or reverse_hex_digits k 0 < 128) (lit< tt) (lit< tt) (lit< tt) (lit< tt) (lit< tt) (lit< tt) (lit< tt) (lit< tt) (lit< tt) (lit< tt) (lit< tt) (lit< tt) (lit< tt) (lit< tt) (lit< tt) (lit< tt))
