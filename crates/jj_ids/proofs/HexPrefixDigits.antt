-- Proofs about hex prefixes: the bytes and the parity represent the digits.
use Rattle.std.proofs.Common.{◌≡◌, ℕ, ◌+◌, ◌-◌, ◌*◌, ◌/◌, ◌%◌, ◌<◌, ◌≤◌, List, [], ◌∷◌, ◌++◌, length, get_or, take, replicate, All, Bool, true, false, cond, eqb, refl, sym, ap, ◌∙◌, arith, suc, zero, map, true≢false}
use Rattle.std.specs.Prelude.{nat_eq, Option, None, Some, MatchOption, IfSome, IsNone, ◌↔◌}
use Rattle.std.specs.Option.{option_map}
use mathlib.Core.Bool.{beq}
use Rattle.std.specs.List.{starts_with}
use Rattle.std.specs.Str.{bytes_eq, str_to_ascii_lowercase, IsAscii}
use Rattle.std.specs.Char.{to_ascii_lowercase}
use Rattle.std.proofs.lemmas.Bool.{eqb-true, false_from_ne_true}
use Rattle.std.proofs.lemmas.List.{append-nil, append_assoc, length-take, length-take-le, length-map, length-append, length-replicate, map-append, take_all, take_at, take_more, take-map, same_from_push, length_push}
use Rattle.std.proofs.lemmas.List.Elements.{All-take, All-head, All-tail, All-get_or, All-from_get_or}
use Rattle.std.proofs.lemmas.Bool.Decides.{same_from_decides}
use Rattle.std.proofs.lemmas.Slice.Eq.{bytes_eq-Decides}
use Rattle.std.specs.Bool.{Decides}
use Rattle.jj_content.specs.Hex.{IsByte, IsPrefixDecoding, is_hex, hex, reverse_hex, hex_digits, reverse_hex_digits, encode_with, padded_hex, DecodesTo}
use Rattle.jj_content.proofs.HexCoding.{AreDigits, are_hex_digits, are_reverse_hex_digits, digits-injective, encode_with-nil, encode_with-cons, encode_with-append, encode_with-injective, length-encode_with, take-encode_with, take-encode_with-half, DecodesTo-encode_with, DecodesTo-length, encode_with-IsAscii}
use Rattle.jj_ids.specs.HexPrefixes.{prefix_digits, IsPrefixBytes, translate_digit, to_reverse_hex, to_forward_hex}

-- the encoding of the bytes, without the last digit if their number is odd
abbrev pub encode_prefix : List ℕ → List ℕ → Bool → List ℕ
encode_prefix digits bytes odd = take (2 * length bytes - cond odd 1 0) (encode_with digits bytes)

pub encode_prefix-even : (digits bytes : List ℕ) → encode_prefix digits bytes false ≡ encode_with digits bytes
encode_prefix-even digits bytes = take_all (2 * length bytes - 0) (encode_with digits bytes) (omega (arith, length-encode_with digits bytes))

pub encode_prefix-odd : (digits bytes : List ℕ) (m : ℕ) → length bytes ≡ m + 1 → encode_prefix digits bytes true ≡ encode_with digits (take m bytes) ++ get_or digits (get_or bytes m 0 / 16) 0 ∷ []
encode_prefix-odd digits bytes m size =
    let e : 2 * length bytes - 1 ≡ 2 * m + 1 = omega arith in
    rw e (take-encode_with-half digits bytes m (omega arith))

pub length-encode_prefix : (digits bytes : List ℕ) (odd : Bool) → length (encode_prefix digits bytes odd) ≡ 2 * length bytes - cond odd 1 0
length-encode_prefix digits bytes odd =
    let e = length-take (2 * length bytes - cond odd 1 0) (encode_with digits bytes) in
    let l = length-encode_with digits bytes in
    omega arith

-- padding a prefix with the digit 0 yields the encoding of its bytes
pub padded-prefix : (bytes : List ℕ) (odd : Bool) → IsPrefixBytes bytes odd → padded_hex hex_digits (prefix_digits bytes odd) ≡ hex bytes
padded-prefix bytes false inv =
    let even : length (prefix_digits bytes false) % 2 ≡ 0 = omega (arith, length-encode_prefix hex_digits bytes false) in
    rw even (append-nil (prefix_digits bytes false) ∙ encode_prefix-even hex_digits bytes)
padded-prefix bytes true inv =
    let m = length bytes - 1 in
    let some = inv.nonempty refl in
    let size : length bytes ≡ m + 1 = omega arith in
    let low = inv.low_zero refl in
    let odd : length (prefix_digits bytes true) % 2 ≡ 1 = omega (arith, length-encode_prefix hex_digits bytes true) in
    let split : bytes ≡ take m bytes ++ get_or bytes m 0 ∷ [] = sym (take_all (m + 1) bytes (omega arith)) ∙ take_more bytes m 0 (omega arith) in
    let text = ap (encode_with hex_digits) split ∙ encode_with-append hex_digits (take m bytes) (get_or bytes m 0 ∷ []) in
    let last : encode_with hex_digits (get_or bytes m 0 ∷ []) ≡ get_or hex_digits (get_or bytes m 0 / 16) 0 ∷ get_or hex_digits 0 0 ∷ []
    = rw (encode_with-cons hex_digits (get_or bytes m 0) [], encode_with-nil hex_digits, low) refl in
    rw odd (ap (λ t. t ++ get_or hex_digits 0 0 ∷ []) (encode_prefix-odd hex_digits bytes m size)
    ∙ append_assoc (encode_with hex_digits (take m bytes)) (get_or hex_digits (get_or bytes m 0 / 16) 0 ∷ []) (get_or hex_digits 0 0 ∷ [])
    ∙ sym (ap (λ t. encode_with hex_digits (take m bytes) ++ t) last) ∙ sym text)

-- the padded prefix decodes to its bytes
pub prefix-reads : (bytes : List ℕ) (odd : Bool) → IsPrefixBytes bytes odd → DecodesTo hex_digits (padded_hex hex_digits (prefix_digits bytes odd)) bytes
prefix-reads bytes odd inv = rw (padded-prefix bytes odd inv) (DecodesTo-encode_with hex_digits bytes are_hex_digits inv.bytes_fit)

-- a prefix of even length decodes to its bytes
pub whole-reads : (bytes : List ℕ) → IsPrefixBytes bytes false → DecodesTo hex_digits (prefix_digits bytes false) bytes
whole-reads bytes inv = rw (encode_prefix-even hex_digits bytes) (DecodesTo-encode_with hex_digits bytes are_hex_digits inv.bytes_fit)

half : (k : ℕ) → k < 2 → cond (eqb k 1) 1 0 ≡ k
half zero small = refl
half (suc zero) small = refl
half (suc (suc k)) small = absurd (omega arith)

read-length : (digits text bytes : List ℕ) → DecodesTo digits (padded_hex digits text) bytes → 2 * length bytes ≡ length text + length text % 2
read-length digits text bytes reads =
    sym (DecodesTo-length digits (padded_hex digits text) bytes reads) ∙ length-append text (replicate (length text % 2) (get_or digits 0 0))
    ∙ ap (λ n. length text + n) (length-replicate (length text % 2) (get_or digits 0 0))

-- the decoded bytes encode to the lower-case string
pub encode_prefix-read : (digits text bytes : List ℕ) (odd : Bool) → DecodesTo digits (padded_hex digits text) bytes → odd ≡ eqb (length text % 2) 1 → encode_prefix digits bytes odd ≡ str_to_ascii_lowercase text
encode_prefix-read digits text bytes odd reads is =
    let size = read-length digits text bytes reads in
    let more = half (length text % 2) (omega arith) in
    let count : 2 * length bytes - cond odd 1 0 ≡ length text = rw is (omega arith) in
    let zeros = replicate (length text % 2) (get_or digits 0 0) in
    let whole : encode_with digits bytes ≡ map to_ascii_lowercase text ++ map to_ascii_lowercase zeros = sym reads.same ∙ map-append to_ascii_lowercase text zeros in
    rw (count, whole) (take_at (map to_ascii_lowercase text) (map to_ascii_lowercase zeros) (length text) (length-map text to_ascii_lowercase))

-- the digit that padding appends is 0
low-zero : (digits text bytes : List ℕ) → AreDigits digits → DecodesTo digits (padded_hex digits text) bytes → length text % 2 ≡ 1 → 0 < length bytes → get_or bytes (length bytes - 1) 0 % 16 ≡ 0
low-zero digits text bytes are reads odd some =
    let m = length bytes - 1 in
    let b = get_or bytes m 0 in
    let small : b < 256 = All-get_or IsByte bytes m 0 (omega arith) reads.bytes_fit in
    let split : bytes ≡ take m bytes ++ b ∷ [] = sym (take_all (m + 1) bytes (omega arith)) ∙ take_more bytes m 0 (omega arith) in
    let last : encode_with digits (b ∷ []) ≡ (get_or digits (b / 16) 0 ∷ []) ++ get_or digits (b % 16) 0 ∷ [] = rw (encode_with-cons digits b [], encode_with-nil digits) refl in
    let text' : encode_with digits bytes ≡ (encode_with digits (take m bytes) ++ get_or digits (b / 16) 0 ∷ []) ++ get_or digits (b % 16) 0 ∷ []
    = ap (encode_with digits) split ∙ encode_with-append digits (take m bytes) (b ∷ []) ∙ ap (λ t. encode_with digits (take m bytes) ++ t) last
    ∙ sym (append_assoc (encode_with digits (take m bytes)) (get_or digits (b / 16) 0 ∷ []) (get_or digits (b % 16) 0 ∷ [])) in
    let lower : str_to_ascii_lowercase (padded_hex digits text) ≡ map to_ascii_lowercase text ++ to_ascii_lowercase (get_or digits 0 0) ∷ []
    = rw odd (map-append to_ascii_lowercase text (get_or digits 0 0 ∷ [])) in
    let ends = same_from_push _ _ _ _ (sym lower ∙ reads.same ∙ text') in
    digits-injective digits (b % 16) 0 are (omega arith) (omega arith) (sym (sym (are.lower 0 (omega arith)) ∙ ends.1))

-- decoded bytes represent a prefix
pub read-bytes : (digits text bytes : List ℕ) (odd : Bool) → AreDigits digits → DecodesTo digits (padded_hex digits text) bytes → odd ≡ eqb (length text % 2) 1 → IsPrefixBytes bytes odd
read-bytes digits text bytes odd are reads is =
    let size = read-length digits text bytes reads in
    let is_odd : odd ≡ true → length text % 2 ≡ 1 = λ yes. eqb-true (length text % 2) 1 (sym is ∙ yes) in
    let some : odd ≡ true → 0 < length bytes = λ yes. (let e = is_odd yes in omega arith) in
    record {
      bytes_fit = reads.bytes_fit;
      nonempty = some;
      low_zero = λ yes. low-zero digits text bytes are reads (is_odd yes) (some yes);
    }

translated-digit : (from to : List ℕ) (m : ℕ) → AreDigits from → m < 16 → translate_digit from to (get_or from m 0) ≡ get_or to m 0
translated-digit from to m are small = let e = are.back m small in rw e refl

-- the encoding with one alphabet translates to that with another
translated-encode_with : (from to bytes : List ℕ) → AreDigits from → All IsByte bytes → map (translate_digit from to) (encode_with from bytes) ≡ encode_with to bytes
translated-encode_with from to [] are fit = rw (encode_with-nil from, encode_with-nil to) refl
translated-encode_with from to (b ∷ bs) are fit =
    let small : b < 256 = All-head IsByte b bs fit in
    let h = translated-digit from to (b / 16) are (omega arith) in
    let l = translated-digit from to (b % 16) are (omega arith) in
    let rest = translated-encode_with from to bs are (All-tail IsByte b bs fit) in
    rw (encode_with-cons from b bs, encode_with-cons to b bs) (cc)

translated-encode_prefix : (from to bytes : List ℕ) (odd : Bool) → AreDigits from → All IsByte bytes → map (translate_digit from to) (encode_prefix from bytes odd) ≡ encode_prefix to bytes odd
translated-encode_prefix from to bytes odd are fit =
    sym (take-map (translate_digit from to) (2 * length bytes - cond odd 1 0) (encode_with from bytes)) ∙ ap (take (2 * length bytes - cond odd 1 0)) (translated-encode_with from to bytes are fit)

pub reversed-encode_prefix : (bytes : List ℕ) (odd : Bool) → All IsByte bytes → to_reverse_hex (encode_prefix hex_digits bytes odd) ≡ encode_prefix reverse_hex_digits bytes odd
unfolding to_reverse_hex
reversed-encode_prefix bytes odd fit = translated-encode_prefix hex_digits reverse_hex_digits bytes odd are_hex_digits fit

pub forward-encode_prefix : (bytes : List ℕ) (odd : Bool) → All IsByte bytes → to_forward_hex (encode_prefix reverse_hex_digits bytes odd) ≡ encode_prefix hex_digits bytes odd
unfolding to_forward_hex
forward-encode_prefix bytes odd fit = translated-encode_prefix reverse_hex_digits hex_digits bytes odd are_reverse_hex_digits fit

-- an injective translation preserves whether one string starts with another
starts-map : (f g : ℕ → ℕ) (xs ys : List ℕ) → map g (map f xs) ≡ xs → map g (map f ys) ≡ ys → starts_with nat_eq xs ys ≡ starts_with nat_eq (map f xs) (map f ys)
starts-map f g xs ys back_x back_y =
    let size : length (map f ys) ≡ length ys = length-map ys f in
    let plain = bytes_eq-Decides ys (take (length ys) xs) in
    let mapped = bytes_eq-Decides (map f ys) (take (length (map f ys)) (map f xs)) in
    let cut_map : take (length (map f ys)) (map f xs) ≡ map f (take (length ys) xs) = ap (λ n. take n (map f xs)) size ∙ take-map f (length ys) xs in
    let undone : map g (map f (take (length ys) xs)) ≡ take (length ys) xs
    = sym (ap (map g) (take-map f (length ys) xs)) ∙ sym (take-map g (length ys) (map f xs)) ∙ ap (take (length ys)) back_x in
    same_from_decides _ _ (
      λ is. ap (map f) (plain.0 is) ∙ sym cut_map,
      λ e. plain.1 (sym back_y ∙ ap (map g) (e ∙ cut_map) ∙ undone),
    ) mapped

pub starts-reversed : (ids bytes : List ℕ) (odd r : Bool) → ((i : ℕ) → get_or ids i 0 < 256) → IsPrefixBytes bytes odd → r ≡ starts_with nat_eq (hex ids) (prefix_digits bytes odd)
    → r ≡ starts_with nat_eq (reverse_hex ids) (to_reverse_hex (prefix_digits bytes odd))
unfolding to_reverse_hex
starts-reversed ids bytes odd r fit inv value =
    let ids_fit = All-from_get_or IsByte ids 0 (λ i _. fit i) in
    let f : ℕ → ℕ = translate_digit hex_digits reverse_hex_digits in
    let g : ℕ → ℕ = translate_digit reverse_hex_digits hex_digits in
    let whole : map f (hex ids) ≡ reverse_hex ids = translated-encode_with hex_digits reverse_hex_digits ids are_hex_digits ids_fit in
    let back_ids : map g (map f (hex ids)) ≡ hex ids = ap (map g) whole ∙ translated-encode_with reverse_hex_digits hex_digits ids are_reverse_hex_digits ids_fit in
    let back_text : map g (map f (prefix_digits bytes odd)) ≡ prefix_digits bytes odd
    = ap (map g) (translated-encode_prefix hex_digits reverse_hex_digits bytes odd are_hex_digits inv.bytes_fit) ∙ translated-encode_prefix reverse_hex_digits hex_digits bytes odd are_reverse_hex_digits inv.bytes_fit in
    value ∙ starts-map f g (hex ids) (prefix_digits bytes odd) back_ids back_text ∙ ap (λ t. starts_with nat_eq t (map f (prefix_digits bytes odd))) whole

-- the result of a decoder, in a type V of byte buffers
module _ {V : Type 0} (items : V → List ℕ) (digits text : List ℕ) where
  pub fits-read : AreDigits digits → (read : Option (V × Bool)) → IsPrefixDecoding items digits text read → IfSome read (λ p. IsPrefixBytes (items p.0) p.1)
  fits-read are None h = tt
  fits-read are (Some p) h = read-bytes digits text (items p.0) p.1 are h.1 h.2

  module _ (read : Option (V × Bool)) (prefix : Option (List ℕ)) (is : prefix ≡ option_map (λ p. prefix_digits (items p.0) p.1) read) (reads : IsPrefixDecoding items digits text read) where
    pub none-read : IsNone prefix ↔ (is_hex digits text ≡ false)
    none-read = rw is (by_read read reads)
      where
        by_read : (read : Option (V × Bool)) → IsPrefixDecoding items digits text read → IsNone (option_map (λ p. prefix_digits (items p.0) p.1) read) ↔ (is_hex digits text ≡ false)
        by_read None h = (λ _. h, λ _. refl)
        by_read (Some p) h = (λ never. (cc), λ bad. absurd (true≢false (sym h.0 ∙ bad)))

    -- the prefix in the alphabet that was decoded
    pub translate-read : (translate : List ℕ → List ℕ) → ((bytes : List ℕ) (odd : Bool) → All IsByte bytes → translate (prefix_digits bytes odd) ≡ encode_prefix digits bytes odd) → IfSome prefix (λ shown. translate shown ≡ str_to_ascii_lowercase text)
    translate-read translate cuts = rw is (by_read read reads)
      where
        by_read : (read : Option (V × Bool)) → IsPrefixDecoding items digits text read → IfSome (option_map (λ p. prefix_digits (items p.0) p.1) read) (λ shown. translate shown ≡ str_to_ascii_lowercase text)
        by_read None h = tt
        by_read (Some p) h = cuts (items p.0) p.1 h.1.bytes_fit ∙ encode_prefix-read digits text (items p.0) p.1 h.1 h.2

    -- the prefix, translated from the alphabet that was decoded
    pub is-read : (back : List ℕ → List ℕ) → ((bytes : List ℕ) (odd : Bool) → All IsByte bytes → back (encode_prefix digits bytes odd) ≡ prefix_digits bytes odd) → IfSome prefix (λ shown. shown ≡ back (str_to_ascii_lowercase text))
    is-read back cuts = rw is (by_read read reads)
      where
        by_read : (read : Option (V × Bool)) → IsPrefixDecoding items digits text read → IfSome (option_map (λ p. prefix_digits (items p.0) p.1) read) (λ shown. shown ≡ back (str_to_ascii_lowercase text))
        by_read None h = tt
        by_read (Some p) h = sym (cuts (items p.0) p.1 h.1.bytes_fit) ∙ ap back (encode_prefix-read digits text (items p.0) p.1 h.1 h.2)

same-bytes : (xs ys : List ℕ) (o : Bool) → IsPrefixBytes xs o → IsPrefixBytes ys o → prefix_digits xs o ≡ prefix_digits ys o → xs ≡ ys
same-bytes xs ys o x y e =
    encode_with-injective hex_digits xs ys are_hex_digits x.bytes_fit y.bytes_fit (sym (padded-prefix xs o x) ∙ ap (padded_hex hex_digits) e ∙ padded-prefix ys o y)

-- equal prefixes have equal bytes and parity
pub prefix-injective : (xs ys : List ℕ) (o p : Bool) → IsPrefixBytes xs o → IsPrefixBytes ys p → prefix_digits xs o ≡ prefix_digits ys p → (xs ≡ ys) × (o ≡ p)
prefix-injective xs ys false false x y e = (same-bytes xs ys false x y e, refl)
prefix-injective xs ys true true x y e = (same-bytes xs ys true x y e, refl)
prefix-injective xs ys false true x y e =
    let l = sym (length-encode_prefix hex_digits xs false) ∙ ap length e ∙ length-encode_prefix hex_digits ys true in
    let some = y.nonempty refl in
    absurd (omega arith)
prefix-injective xs ys true false x y e =
    let l = sym (length-encode_prefix hex_digits xs true) ∙ ap length e ∙ length-encode_prefix hex_digits ys false in
    let some = x.nonempty refl in
    absurd (omega arith)

-- comparing prefixes is comparing bytes and parity
pub prefix-Decides : (xs ys : List ℕ) (o p : Bool) → IsPrefixBytes xs o → IsPrefixBytes ys p → Decides (bytes_eq (prefix_digits xs o) (prefix_digits ys p)) ((xs ≡ ys) × (o ≡ p))
prefix-Decides xs ys o p x y =
    let text = bytes_eq-Decides (prefix_digits xs o) (prefix_digits ys p) in
    (λ yes. prefix-injective xs ys o p x y (text.0 yes), λ (e, f). text.1 (rw (e, f) refl))

fits-take : (n : ℕ) (xs : List ℕ) → All IsByte xs → All IsByte (take n xs)
fits-take n xs fit = All-take IsByte n xs fit

-- even length: the encoding starts with the prefix if and only if the bytes do
pub starts-whole : (ids bytes : List ℕ) → All IsByte ids → IsPrefixBytes bytes false → starts_with nat_eq ids bytes ≡ starts_with nat_eq (hex ids) (prefix_digits bytes false)
starts-whole ids bytes ids_fit inv =
    let front = take (length bytes) ids in
    let text = prefix_digits bytes false in
    let whole : text ≡ hex bytes = encode_prefix-even hex_digits bytes in
    let size : length text ≡ 2 * length bytes = ap length whole ∙ length-encode_with hex_digits bytes in
    let cut_text : take (length text) (hex ids) ≡ hex front = ap (λ n. take n (hex ids)) size ∙ take-encode_with hex_digits ids (length bytes) in
    let in_bytes = bytes_eq-Decides bytes front in
    let in_text = bytes_eq-Decides text (take (length text) (hex ids)) in
    same_from_decides _ _ in_bytes (
      λ yes. encode_with-injective hex_digits bytes front are_hex_digits inv.bytes_fit (fits-take (length bytes) ids ids_fit) (sym whole ∙ in_text.0 yes ∙ cut_text),
      λ same. in_text.1 (whole ∙ ap (encode_with hex_digits) same ∙ sym cut_text),
    )

-- odd length: the whole bytes are compared, and then the high digit
pub starts-half : (ids bytes : List ℕ) (m : ℕ) → All IsByte ids → IsPrefixBytes bytes true → length bytes ≡ m + 1
    → Decides (starts_with nat_eq (hex ids) (prefix_digits bytes true)) ((m < length ids) × (take m bytes ≡ take m ids) × (get_or ids m 0 / 16 ≡ get_or bytes m 0 / 16))
starts-half ids bytes m ids_fit inv is =
    let text = prefix_digits bytes true in
    let a = get_or ids m 0 in
    let b = get_or bytes m 0 in
    let high_a = get_or hex_digits (a / 16) 0 in
    let high_b = get_or hex_digits (b / 16) 0 in
    let whole : text ≡ hex (take m bytes) ++ high_b ∷ [] = encode_prefix-odd hex_digits bytes m is in
    let front_size = length-take m bytes in
    let size : length text ≡ 2 * m + 1 = ap length whole ∙ length_push (hex (take m bytes)) high_b ∙ (let l = length-encode_with hex_digits (take m bytes) in omega arith) in
    let cut_text : m < length ids → take (length text) (hex ids) ≡ hex (take m ids) ++ high_a ∷ [] = λ within. ap (λ n. take n (hex ids)) size ∙ take-encode_with-half hex_digits ids m within in
    let in_text = bytes_eq-Decides text (take (length text) (hex ids)) in (
      λ yes.
          let same = in_text.0 yes in
          let l = ap length same ∙ length-take (length text) (hex ids) in
          let ids_size = length-encode_with hex_digits ids in
          let within : m < length ids = omega arith in
          let ends = same_from_push (hex (take m bytes)) (hex (take m ids)) high_b high_a (sym whole ∙ same ∙ cut_text within) in
          let small_a : a < 256 = All-get_or IsByte ids m 0 within ids_fit in
          let small_b : b < 256 = All-get_or IsByte bytes m 0 (omega arith) inv.bytes_fit in (
            within,
            encode_with-injective hex_digits (take m bytes) (take m ids) are_hex_digits (fits-take m bytes inv.bytes_fit) (fits-take m ids ids_fit) ends.0,
            digits-injective hex_digits (a / 16) (b / 16) are_hex_digits (omega arith) (omega arith) (sym ends.1),
          ),
      λ (within, prefixes, high). in_text.1 (
          whole ∙ ap (λ t. encode_with hex_digits t ++ high_b ∷ []) prefixes ∙ ap (λ d. hex (take m ids) ++ get_or hex_digits d 0 ∷ []) (sym high) ∙ sym (cut_text within)),
    )

-- facts about the fields of a prefix, in terms of its value

pub odd-length : (bytes text : List ℕ) (odd : Bool) → odd ≡ true → IsPrefixBytes bytes odd → prefix_digits bytes odd ≡ text → length text % 2 ≡ 1
odd-length bytes text true is inv view = let some = inv.nonempty refl in omega (arith, length-encode_prefix hex_digits bytes true, ap length view)
odd-length bytes text false is inv view = absurd (cc)

pub even-length : (bytes text : List ℕ) (odd : Bool) → odd ≡ false → prefix_digits bytes odd ≡ text → length text % 2 ≡ 0
even-length bytes text false is view = omega (arith, length-encode_prefix hex_digits bytes false, ap length view)
even-length bytes text true is view = absurd (cc)

pub even-reads : (bytes result text : List ℕ) (odd : Bool) → odd ≡ false → IsPrefixBytes bytes odd → prefix_digits bytes odd ≡ text → result ≡ bytes → DecodesTo hex_digits text result
even-reads bytes result text false is inv view same = rw (← view, same) (whole-reads bytes inv)
even-reads bytes result text true is inv view same = absurd (cc)

pub padded-reads : (bytes result text : List ℕ) (odd : Bool) → IsPrefixBytes bytes odd → prefix_digits bytes odd ≡ text → result ≡ bytes → DecodesTo hex_digits (padded_hex hex_digits text) result
padded-reads bytes result text odd inv view same = rw (← view, same) (prefix-reads bytes odd inv)

pub text-IsAscii : (digits bytes text : List ℕ) → IsAscii digits → text ≡ encode_with digits bytes → IsAscii text
text-IsAscii digits bytes text ascii is = rw is (encode_with-IsAscii digits bytes ascii)

pub text-nonempty : (digits bytes items text : List ℕ) (odd : Bool) → IsPrefixBytes items odd → bytes ≡ items → text ≡ encode_with digits bytes → odd ≡ true → 0 < length text
text-nonempty digits bytes items text odd inv same is is_odd =
    let some = inv.nonempty is_odd in
    omega (arith, ap length is, length-encode_with digits bytes, ap length same)

pub encode_prefix-of : (digits bytes items text short : List ℕ) (odd : Bool) → bytes ≡ items → text ≡ encode_with digits bytes → short ≡ take (length text - cond odd 1 0) text → short ≡ encode_prefix digits items odd
encode_prefix-of digits bytes items text short odd same is cut_is =
    let size : length text ≡ 2 * length items = ap length is ∙ length-encode_with digits bytes ∙ ap (λ b. 2 * length b) same in
    cut_is ∙ ap (λ n. take (n - cond odd 1 0) text) size ∙ ap (take (2 * length items - cond odd 1 0)) (is ∙ ap (encode_with digits) same)

-- the result of `matches_digits` for even and for odd length
pub matches-whole : (ids bytes : List ℕ) (odd r : Bool) → odd ≡ false → ((i : ℕ) → get_or ids i 0 < 256) → IsPrefixBytes bytes odd → r ≡ starts_with nat_eq ids bytes
    → r ≡ starts_with nat_eq (hex ids) (prefix_digits bytes odd)
matches-whole ids bytes false r is fit inv value = value ∙ starts-whole ids bytes (All-from_get_or IsByte ids 0 (λ i _. fit i)) inv
matches-whole ids bytes true r is fit inv value = absurd (cc)

pub matches-half : (ids bytes : List ℕ) (m : ℕ) (odd : Bool) → odd ≡ true → ((i : ℕ) → get_or ids i 0 < 256) → IsPrefixBytes bytes odd → length bytes ≡ m + 1
    → Decides (starts_with nat_eq (hex ids) (prefix_digits bytes odd)) ((m < length ids) × (take m bytes ≡ take m ids) × (get_or ids m 0 / 16 ≡ get_or bytes m 0 / 16))
matches-half ids bytes m true is fit inv size = starts-half ids bytes m (All-from_get_or IsByte ids 0 (λ i _. fit i)) inv size
matches-half ids bytes m false is fit inv size = absurd (cc)

-- prefixes are equal if and only if their bytes and parity are

same_halves : (o p : Bool) → beq o p ≡ true → o ≡ p
same_halves true true e = refl
same_halves false false e = refl
same_halves true false e = (cc)
same_halves false true e = (cc)

other_halves : (o p : Bool) → beq o p ≡ false → o ≡ p → ⊥
other_halves true true e = (cc)
other_halves false false e = (cc)
other_halves true false e = λ same. (cc)
other_halves false true e = λ same. (cc)

pub eq-same : (xs ys t u : List ℕ) (o p r : Bool) → beq o p ≡ true → IsPrefixBytes xs o → IsPrefixBytes ys p → prefix_digits xs o ≡ t → prefix_digits ys p ≡ u → r ≡ bytes_eq xs ys → r ≡ bytes_eq t u
eq-same xs ys t u o p r same x y view_x view_y value =
    let in_text = prefix-Decides xs ys o p x y in
    let in_bytes = bytes_eq-Decides xs ys in
    let halves = same_halves o p same in
    let equal : bytes_eq xs ys ≡ bytes_eq (prefix_digits xs o) (prefix_digits ys p)
    = same_from_decides _ _ in_bytes (λ h. (in_text.0 h).0, λ e. in_text.1 (e, halves)) in
    rw (← view_x, ← view_y) (value ∙ equal)

pub eq-differ : (xs ys t u : List ℕ) (o p : Bool) → beq o p ≡ false → IsPrefixBytes xs o → IsPrefixBytes ys p → prefix_digits xs o ≡ t → prefix_digits ys p ≡ u → beq o p ≡ bytes_eq t u
eq-differ xs ys t u o p differ x y view_x view_y =
    let in_text = prefix-Decides xs ys o p x y in
    rw (← view_x, ← view_y) (differ ∙ sym (false_from_ne_true _ (λ h. other_halves o p differ (in_text.0 h).1)))

-- compares the whole bytes before the last digit
pub front-Decides : (ids bytes : List ℕ) (m : ℕ) → m ≤ length bytes → Decides (starts_with nat_eq ids (take m bytes)) (take m bytes ≡ take m ids)
front-Decides ids bytes m within =
    let size : length (take m bytes) ≡ m = length-take-le m bytes within in
    rw size (bytes_eq-Decides (take m bytes) (take m ids))
