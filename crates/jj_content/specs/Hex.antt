-- Hexadecimal: two digits per byte, the high one first, in two alphabets.
-- Cited by contracts of public items: DecodesTo, IsByte, IsDecoding, IsPrefixDecoding, hex,
-- hex_digits, is_hex, is_whole_hex, padded_hex, reverse_hex, reverse_hex_digits.
use Rattle.std.specs.Prelude.{◌≡◌, ℕ, ◌/◌, ◌%◌, ◌<◌, ◌^◌, List, [], ◌∷◌, ◌++◌, ◌==◌, length, slice_index, replicate, codes, All, Option, MatchOption, position, Bool, true, false, ◌&&◌, is_some}
use Rattle.std.specs.Str.{str_to_ascii_lowercase}
use Rattle.std.specs.Char.{to_ascii_lowercase}
use Rattle.std.specs.List.{flat_map, list_all}

-- the digits of forward hex
abbrev pub hex_digits : List ℕ
hex_digits = codes "0123456789abcdef"

-- the digits of reverse hex: z is 0, k is 15
abbrev pub reverse_hex_digits : List ℕ
reverse_hex_digits = codes "zyxwvutsrqponmlk"

-- the two digits of a byte
abbrev pub digit_pair : List ℕ → ℕ → List ℕ
digit_pair digits byte = slice_index digits (byte / 16) ∷ slice_index digits (byte % 16) ∷ []

-- encodes bytes with these digits
unfoldable pub encode_with : List ℕ → List ℕ → List ℕ
encode_with digits bytes = flat_map (digit_pair digits) bytes

-- encodes bytes as forward hex
abbrev pub hex : List ℕ → List ℕ
hex bytes = encode_with hex_digits bytes

-- encodes bytes as reverse hex
abbrev pub reverse_hex : List ℕ → List ℕ
reverse_hex bytes = encode_with reverse_hex_digits bytes

-- the number is a byte
abbrev pub IsByte : ℕ → Type 0
IsByte number = number < 2 ^ 8

-- the string decodes to these bytes: its lower-case form is their encoding
pub record DecodesTo (digits text bytes : List ℕ) : Type 0 where
  pub bytes_fit : All IsByte bytes
  pub same : str_to_ascii_lowercase text ≡ encode_with digits bytes

-- the string, with the digit 0 appended if its length is odd
abbrev pub padded_hex : List ℕ → List ℕ → List ℕ
padded_hex digits text = text ++ replicate (length text % 2) (slice_index digits 0)

-- the value of a digit of either case
abbrev pub digit_value : List ℕ → ℕ → Option ℕ
digit_value digits c = position (λ digit. digit == to_ascii_lowercase c) digits

-- each character is a digit of either case
abbrev pub is_hex : List ℕ → List ℕ → Bool
is_hex digits text = list_all (λ c. is_some (digit_value digits c)) text

-- the string encodes whole bytes: it has an even number of characters, all of them digits
abbrev pub is_whole_hex : List ℕ → List ℕ → Bool
is_whole_hex digits text = (length text % 2 == 0) && is_hex digits text

-- the result of decoding a string: the bytes if it encodes whole bytes, and None otherwise
abbrev pub IsDecoding : {A : Type 0} → (A → List ℕ) → List ℕ → List ℕ → Option A → Type 0
IsDecoding bytes_of digits text result = MatchOption result (is_whole_hex digits text ≡ false)
    (λ read. (is_whole_hex digits text ≡ true) × DecodesTo digits text (bytes_of read))

-- the result of decoding a string of any length: the bytes of the padded string and whether the
-- length is odd, if all characters are digits, and None otherwise
abbrev pub IsPrefixDecoding : {A : Type 0} → (A → List ℕ) → List ℕ → List ℕ → Option (A × Bool)
    → Type 0
IsPrefixDecoding bytes_of digits text result = MatchOption result
    (is_hex digits text ≡ false)
    (λ read. (is_hex digits text ≡ true)
    × DecodesTo digits (padded_hex digits text) (bytes_of read.0)
    × (read.1 ≡ (length text % 2 == 1)))
