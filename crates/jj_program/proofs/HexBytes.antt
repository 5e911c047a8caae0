-- The two definitions of hex decoding agree.
use Rattle.std.proofs.Common.{◌≡◌, ◌∙◌, ℕ, ◌+◌, ◌*◌, ◌/◌, ◌%◌, ◌<◌, List, [], ◌∷◌, ◌++◌, append_assoc, length, get_or, Option, Some, None, refl, ap, sym, subst, arith, true≢false, false}
use Rattle.std.specs.Str.{str_to_ascii_lowercase}
use Rattle.std.specs.Char.{to_ascii_lowercase}
use Rattle.std.proofs.lemmas.List.Elements.{All-head, All-tail}
use Rattle.std.proofs.lemmas.Option.{none-some, same_Some}
use Rattle.jj_content.specs.Hex.{IsByte, hex_digits, digit_value, encode_with, DecodesTo, is_whole_hex}
use Rattle.jj_content.proofs.HexCoding.{are_hex_digits, digit_value-same, encode_with-cons, DecodesTo-nil, DecodesTo-cons, DecodesTo-length, DecodesTo-is_text}
use Rattle.jj_program.specs.HashCommand.{bytes_of_hex}
use Rattle.std.specs.Prelude.{option_and_then, option_map}

abbrev Reads : List ℕ → List ℕ → Type 0
Reads text bytes = DecodesTo hex_digits text bytes

-- a hex digit has its value
value_of : (c v : ℕ) → v < 16 → to_ascii_lowercase c ≡ get_or hex_digits v 0 → digit_value hex_digits c ≡ Some v
value_of c v small is =
    digit_value-same hex_digits c (get_or hex_digits v 0) (is ∙ sym (are_hex_digits.lower v small)) ∙ are_hex_digits.back v small

-- encoded bytes decode
pub found_bytes : (text bytes : List ℕ) → Reads text bytes → bytes_of_hex text ≡ Some bytes
found_bytes [] [] reads = refl
found_bytes [] (x ∷ xs) reads = absurd (omega (arith, DecodesTo-length hex_digits [] (x ∷ xs) reads))
found_bytes (a ∷ []) bytes reads = absurd (omega (arith, DecodesTo-length hex_digits (a ∷ []) bytes reads))
found_bytes (a ∷ b ∷ text) [] reads = absurd (omega (arith, DecodesTo-length hex_digits (a ∷ b ∷ text) [] reads))
found_bytes (a ∷ b ∷ text) (x ∷ xs) reads =
    let small : x < 256 = All-head IsByte x xs reads.bytes_fit in
    let same = reads.same in
    let written = encode_with-cons hex_digits x xs in
    let first : to_ascii_lowercase a ≡ get_or hex_digits (x / 16) 0 = cc in
    let second : to_ascii_lowercase b ≡ get_or hex_digits (x % 16) 0 = cc in
    let further : str_to_ascii_lowercase text ≡ encode_with hex_digits xs = cc in
    let high = value_of a (x / 16) (omega arith) first in
    let low = value_of b (x % 16) (omega arith) second in
    let rest = found_bytes text xs (record { bytes_fit = All-tail IsByte x xs reads.bytes_fit; same = further }) in
    let whole : x / 16 * 16 + x % 16 ≡ x = omega arith in
    rw (high, low, rest, whole) refl

-- decoded bytes encode
pub found_reads : (text bytes : List ℕ) → bytes_of_hex text ≡ Some bytes → Reads text bytes
found_reads [] [] found = DecodesTo-nil hex_digits
found_reads [] (x ∷ xs) found = cc
found_reads (a ∷ []) bytes found = absurd (none-some _ found)
found_reads (a ∷ b ∷ text) bytes found = by_digits (found_reads text) (digit_value hex_digits a) (digit_value hex_digits b) (bytes_of_hex text) refl refl refl found
  where
    by_digits : ((rest : List ℕ) → bytes_of_hex text ≡ Some rest → Reads text rest) → (high low : Option ℕ) (rest : Option (List ℕ)) → digit_value hex_digits a ≡ high → digit_value hex_digits b ≡ low → bytes_of_hex text ≡ rest
        → option_and_then (λ h. option_and_then (λ l. option_map (λ bytes. (h * 16 + l) ∷ bytes) rest) low) high ≡ Some bytes → Reads (a ∷ b ∷ text) bytes
    by_digits further (Some high) (Some low) (Some rest) h l r is =
        let is_bytes : (high * 16 + low) ∷ rest ≡ bytes = same_Some _ _ is in
        subst (λ found. Reads (a ∷ b ∷ text) found) is_bytes (DecodesTo-cons hex_digits text rest a b high low are_hex_digits (further rest r) h l)
    by_digits further (Some high) (Some low) None h l r is = absurd (none-some _ is)
    by_digits further (Some high) None rest h l r is = absurd (none-some _ is)
    by_digits further None low rest h l r is = absurd (none-some _ is)

-- other strings do not decode
pub found_nothing : (text : List ℕ) → is_whole_hex hex_digits text ≡ false → bytes_of_hex text ≡ None
found_nothing text none = by_found (bytes_of_hex text) refl
  where
    by_found : (found : Option (List ℕ)) → bytes_of_hex text ≡ found → bytes_of_hex text ≡ None
    by_found None is = is
    by_found (Some bytes) is = absurd (true≢false (sym (DecodesTo-is_text hex_digits text bytes are_hex_digits (found_reads text bytes is)) ∙ none))

-- the bytes after others
abbrev pub after_bytes : List ℕ → Option (List ℕ) → Option (List ℕ)
after_bytes bytes more = option_map (λ further. bytes ++ further) more

pub after_none : (more : Option (List ℕ)) → after_bytes [] more ≡ more
after_none (Some bytes) = refl
after_none None = refl

pub after_both : (xs ys : List ℕ) (more : Option (List ℕ)) → after_bytes xs (after_bytes ys more) ≡ after_bytes (xs ++ ys) more
after_both xs ys (Some bytes) = ap Some (sym (append_assoc xs ys bytes))
after_both xs ys None = refl

-- a string decodes prefix by prefix
pub found_front : (front back bytes : List ℕ) → bytes_of_hex front ≡ Some bytes → bytes_of_hex (front ++ back) ≡ after_bytes bytes (bytes_of_hex back)
found_front [] back bytes found = sym (after_none (bytes_of_hex back)) ∙ ap (λ b. after_bytes b (bytes_of_hex back)) (same_Some _ _ found)
found_front (a ∷ []) back bytes found = absurd (none-some _ found)
found_front (a ∷ b ∷ text) back bytes found = by_digits (found_front text back) (digit_value hex_digits a) (digit_value hex_digits b) (bytes_of_hex text) refl found
  where
    grown : (x : ℕ) (rest : List ℕ) (more : Option (List ℕ)) → option_map (λ found. x ∷ found) (after_bytes rest more) ≡ after_bytes (x ∷ rest) more
    grown x rest (Some more) = refl
    grown x rest None = refl

    by_digits : ((rest : List ℕ) → bytes_of_hex text ≡ Some rest → bytes_of_hex (text ++ back) ≡ after_bytes rest (bytes_of_hex back)) → (high low : Option ℕ) (rest : Option (List ℕ)) → bytes_of_hex text ≡ rest
        → option_and_then (λ h. option_and_then (λ l. option_map (λ bytes. (h * 16 + l) ∷ bytes) rest) low) high ≡ Some bytes
        → option_and_then (λ h. option_and_then (λ l. option_map (λ bytes. (h * 16 + l) ∷ bytes) (bytes_of_hex (text ++ back))) low) high ≡ after_bytes bytes (bytes_of_hex back)
    by_digits further (Some high) (Some low) (Some rest) r is =
        ap (option_map (λ bytes. (high * 16 + low) ∷ bytes)) (further rest r) ∙ grown (high * 16 + low) rest (bytes_of_hex back)
        ∙ ap (λ b. after_bytes b (bytes_of_hex back)) (same_Some _ _ is)
    by_digits further (Some high) (Some low) None r is = absurd (none-some _ is)
    by_digits further (Some high) None rest r is = absurd (none-some _ is)
    by_digits further None low rest r is = absurd (none-some _ is)

-- a string with an invalid prefix of even length does not decode
pub lost_front : (front back : List ℕ) → length front % 2 ≡ 0 → bytes_of_hex front ≡ None → bytes_of_hex (front ++ back) ≡ None
lost_front [] back even found = absurd (none-some _ (sym found))
lost_front (a ∷ []) back even found = absurd (omega (arith, even))
lost_front (a ∷ b ∷ text) back even found = by_digits (lost_front text back (omega (arith, even))) (digit_value hex_digits a) (digit_value hex_digits b) (bytes_of_hex text) refl found
  where
    by_digits : (bytes_of_hex text ≡ None → bytes_of_hex (text ++ back) ≡ None) → (high low : Option ℕ) (rest : Option (List ℕ)) → bytes_of_hex text ≡ rest
        → option_and_then (λ h. option_and_then (λ l. option_map (λ bytes. (h * 16 + l) ∷ bytes) rest) low) high ≡ None
        → option_and_then (λ h. option_and_then (λ l. option_map (λ bytes. (h * 16 + l) ∷ bytes) (bytes_of_hex (text ++ back))) low) high ≡ None
    by_digits further (Some high) (Some low) (Some rest) r is = absurd (none-some _ (sym is))
    by_digits further (Some high) (Some low) None r is = ap (option_map (λ bytes. (high * 16 + low) ∷ bytes)) (further r)
    by_digits further (Some high) None rest r is = refl
    by_digits further None low rest r is = refl

-- a message and the rest of a string, of which a prefix is decoded next
module _ (text message rest : List ℕ) (so_far : bytes_of_hex text ≡ after_bytes message (bytes_of_hex rest)) where
  pub part_found : (front back bytes : List ℕ) → rest ≡ front ++ back → bytes_of_hex front ≡ Some bytes → bytes_of_hex text ≡ after_bytes (message ++ bytes) (bytes_of_hex back)
  part_found front back bytes cut found =
      so_far ∙ ap (after_bytes message) (ap bytes_of_hex cut ∙ found_front front back bytes found) ∙ after_both message bytes (bytes_of_hex back)

  pub part_lost : (front back : List ℕ) → rest ≡ front ++ back → length front % 2 ≡ 0 → bytes_of_hex front ≡ None → bytes_of_hex text ≡ None
  part_lost front back cut even lost = so_far ∙ ap (after_bytes message) (ap bytes_of_hex cut ∙ lost_front front back even lost)

  pub all_found : (bytes : List ℕ) → bytes_of_hex rest ≡ Some bytes → bytes_of_hex text ≡ Some (message ++ bytes)
  all_found bytes found = so_far ∙ ap (after_bytes message) found

  pub all_lost : bytes_of_hex rest ≡ None → bytes_of_hex text ≡ None
  all_lost lost = so_far ∙ ap (after_bytes message) lost
