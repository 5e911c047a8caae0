-- Loop invariants of decoding hex by pairs of digits.
use Rattle.std.proofs.Common.{◌≡◌, ℕ, ◌+◌, ◌*◌, ◌/◌, ◌%◌, ◌<◌, ◌≤◌, List, [], ◌∷◌, ◌++◌, length, get_or, take, drop, Some, None, true, false, refl, sym, ap, ◌∙◌, arith, suc, zero}
use Rattle.std.specs.Simd.{first_chunks}
use Rattle.std.proofs.lemmas.List.{append-nil, append_assoc, drop-drop, get_or-take, get_or-drop, get_or_append_left, length-append, take_more, take_all}
use Rattle.jj_content.specs.Hex.{DecodesTo, padded_hex, digit_value, is_hex}
use Rattle.jj_content.specs.HexDigits.{digits_of}
use Rattle.jj_content.specs.declared.hex_util.Digits.{Digits}
use Rattle.jj_content.specs.declared.hex_util.Digits.TheVariants.{Forward, Reverse}
use Rattle.jj_content.proofs.HexCoding.{AreDigits, are_hex_digits, are_reverse_hex_digits, all_digits, no_digit, DecodesTo-push, DecodesTo-digit}

pub are_digits : (digits : Digits) → AreDigits (digits_of digits)
are_digits Forward = are_hex_digits
are_digits Reverse = are_reverse_hex_digits

chunk_at : (n : ℕ) (xs : List ℕ) (i : ℕ) (d : List ℕ) → i < n → get_or (first_chunks 2 n xs) i d ≡ take 2 (drop (2 * i) xs)
chunk_at zero xs i d h = absurd (omega arith)
chunk_at (suc n) xs zero d h = refl
chunk_at (suc n) xs (suc i) d h =
    let there = chunk_at n (drop 2 xs) i d (omega arith) in
    let e : 2 + 2 * i ≡ 2 * suc i = omega arith in
    there ∙ ap (take 2) (drop-drop (2 * i) 2 xs ∙ ap (λ k. drop k xs) e)

-- digit j of chunk i is character `2 * i + j`
pub chunk_digit : (text : List ℕ) (chunks : List (List ℕ)) (i : ℕ) (d : List ℕ) (j : ℕ) → chunks ≡ first_chunks 2 (length text / 2) text → i < length text / 2 → j < 2
    → get_or (get_or chunks i d) j 0 ≡ get_or text (2 * i + j) 0
chunk_digit text chunks i d j is h k =
    ap (λ c. get_or (get_or c i d) j 0) is ∙ ap (λ c. get_or c j 0) (chunk_at (length text / 2) text i d h) ∙ get_or-take 2 (drop (2 * i) text) j 0 k ∙ get_or-drop (2 * i) text j 0

-- all characters of a string are digits if the padded string decodes
pub padded-is_hex : (digits text bytes : List ℕ) → AreDigits digits → DecodesTo digits (padded_hex digits text) bytes → is_hex digits text ≡ true
padded-is_hex digits text bytes are reads = all_digits digits text (λ k within none.
    let whole = padded_hex digits text in
    let longer : k < length whole = omega (arith, length-append {A = ℕ}) in
    DecodesTo-digit digits whole bytes k are reads longer (ap (digit_value digits) (get_or_append_left text _ 0 k within) ∙ none))

pub invalid_chunk : (digits text : List ℕ) (chunks : List (List ℕ)) (i : ℕ) (d : List ℕ) (j : ℕ) → chunks ≡ first_chunks 2 (length text / 2) text → i < length text / 2 → j < 2
    → None ≡ digit_value digits (get_or (get_or chunks i d) j 0) → is_hex digits text ≡ false
invalid_chunk digits text chunks i d j is h k none =
    no_digit digits text (2 * i + j) (omega arith) (sym (ap (digit_value digits) (chunk_digit text chunks i d j is h k)) ∙ sym none)

take_two : (text : List ℕ) (i : ℕ) → 2 * i + 1 < length text → take (2 * (i + 1)) text ≡ take (2 * i) text ++ get_or text (2 * i) 0 ∷ get_or text (2 * i + 1) 0 ∷ []
take_two text i h =
    let first = take_more text (2 * i) 0 (omega arith) in
    let second = take_more text (2 * i + 1) 0 h in
    let e : 2 * (i + 1) ≡ 2 * i + 1 + 1 = omega arith in
    rw (e, second, first) (append_assoc (take (2 * i) text) (get_or text (2 * i) 0 ∷ []) (get_or text (2 * i + 1) 0 ∷ []))

-- loop step: one more pair of digits
pub next_pair : (digits text : List ℕ) (chunks : List (List ℕ)) (bytes new : List ℕ) (i : ℕ) (d : List ℕ) (e : List ℕ) (high low byte : ℕ) → AreDigits digits → chunks ≡ first_chunks 2 (length text / 2) text → i < length text / 2
    → DecodesTo digits (take (2 * i) text) bytes → Some high ≡ digit_value digits (get_or (get_or chunks i d) 0 0) → Some low ≡ digit_value digits (get_or (get_or chunks i e) 1 0)
    → byte ≡ high * 16 + low → new ≡ bytes ++ byte ∷ [] → DecodesTo digits (take (2 * (i + 1)) text) new
next_pair digits text chunks bytes new i d e high low byte are is h reads is_high is_low is_byte is_new =
    let first = sym (ap (digit_value digits) (chunk_digit text chunks i d 0 is h (omega arith))) ∙ sym is_high in
    let second = sym (ap (digit_value digits) (chunk_digit text chunks i e 1 is h (omega arith))) ∙ sym is_low in
    let at : 2 * i + 0 ≡ 2 * i = omega arith in
    let first' : digit_value digits (get_or text (2 * i) 0) ≡ Some high = rw at at first in
    rw (is_new, is_byte, take_two text i (omega arith)) (DecodesTo-push digits (take (2 * i) text) bytes (get_or text (2 * i) 0) (get_or text (2 * i + 1) 0) high low are reads first' second)

-- padding does not change a string of even length
pub padded_even : (digits text : List ℕ) → length text % 2 ≡ 0 → padded_hex digits text ≡ text
padded_even digits text e = rw e (append-nil text)

-- loop exit, if the length is even
pub whole_pairs : (digits text bytes : List ℕ) (n : ℕ) → n ≡ length text / 2 → length text % 2 ≡ 0 → DecodesTo digits (take (2 * n) text) bytes → DecodesTo digits (padded_hex digits text) bytes
whole_pairs digits text bytes n is even reads =
    let whole : take (2 * n) text ≡ text = take_all (2 * n) text (omega arith) in
    rw (padded_even digits text even) (rw whole at reads)

padded_odd : (digits text : List ℕ) (n : ℕ) → length text % 2 ≡ 1 → n ≡ length text / 2 → padded_hex digits text ≡ take (2 * n) text ++ get_or text (2 * n) 0 ∷ get_or digits 0 0 ∷ []
padded_odd digits text n odd is =
    let last = take_more text (2 * n) 0 (omega arith) in
    let whole : take (2 * n + 1) text ≡ text = take_all (2 * n + 1) text (omega arith) in
    let split : text ≡ take (2 * n) text ++ get_or text (2 * n) 0 ∷ [] = sym whole ∙ last in
    let there = append_assoc (take (2 * n) text) (get_or text (2 * n) 0 ∷ []) (get_or digits 0 0 ∷ []) in
    rw odd (ap (λ t. t ++ get_or digits 0 0 ∷ []) split ∙ there)

-- the digit that remains after the pairs
pub last_at : (text rest : List ℕ) → rest ≡ drop (length text / 2 * 2) text → get_or rest 0 0 ≡ get_or text (2 * (length text / 2)) 0
last_at text rest is =
    let e : length text / 2 * 2 + 0 ≡ 2 * (length text / 2) = omega arith in
    ap (λ r. get_or r 0 0) is ∙ get_or-drop (length text / 2 * 2) text 0 0 ∙ ap (λ k. get_or text k 0) e

pub invalid_last : (digits text rest : List ℕ) → rest ≡ drop (length text / 2 * 2) text → length rest ≡ length text % 2 → 1 ≤ length rest → None ≡ digit_value digits (get_or rest 0 0)
    → is_hex digits text ≡ false
invalid_last digits text rest is size there none =
    no_digit digits text (2 * (length text / 2)) (omega arith) (sym (ap (digit_value digits) (last_at text rest is)) ∙ sym none)

-- loop exit, if the length is odd: the last digit is the high one of one more byte
pub last_digit : (digits text rest bytes new : List ℕ) (n high byte : ℕ) → AreDigits digits → rest ≡ drop (length text / 2 * 2) text → length rest ≡ length text % 2 → 1 ≤ length rest → n ≡ length text / 2
    → DecodesTo digits (take (2 * n) text) bytes → Some high ≡ digit_value digits (get_or rest 0 0) → byte ≡ high * 16 + 0 → new ≡ bytes ++ byte ∷ [] → DecodesTo digits (padded_hex digits text) new
last_digit digits text rest bytes new n high byte are is size there is_n reads is_high is_byte is_new =
    let odd : length text % 2 ≡ 1 = omega arith in
    let at : get_or rest 0 0 ≡ get_or text (2 * n) 0 = last_at text rest is ∙ ap (λ k. get_or text (2 * k) 0) (sym is_n) in
    let value : digit_value digits (get_or text (2 * n) 0) ≡ Some high = sym (ap (digit_value digits) at) ∙ sym is_high in
    rw (is_new, is_byte, padded_odd digits text n odd is_n) (DecodesTo-push digits (take (2 * n) text) bytes (get_or text (2 * n) 0) (get_or digits 0 0) high 0 are reads value (are.back 0 (omega arith)))
