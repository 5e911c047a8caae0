-- Double-quoted strings: the escape of each byte, and the character that each escape represents.
-- Cited by contracts of public items: IsEscapeOf, escaped_string, quoted_string.
use Rattle.std.specs.Prelude.{◌≡◌, ℕ, ◌<◌, ◌^◌, List, [], ◌∷◌, ◌++◌, ◌==◌, codes, if◌then◌else◌, Option, Some, find, ◌⊎◌}
use Rattle.std.specs.Option.{option_map, option_map_or}
use Rattle.std.specs.List.{flat_map}
use Rattle.std.specs.Char.{is_ascii_control}
use Rattle.std.specs.Str.Parse.{IsNumeral, digits_value, without_leading_plus}
use Rattle.jj_content.specs.Hex.{digit_pair, hex_digits}

-- the characters that are escaped as a backslash and a letter, with the letter: quote, backslash,
-- tab, carriage return, line feed, null
abbrev pub letter_escapes : List (ℕ × ℕ)
letter_escapes = (34, 34) ∷ (92, 92) ∷ (9, 116) ∷ (13, 114) ∷ (10, 110) ∷ (0, 48) ∷ []

-- the escape of a byte as `\x` and two hex digits
abbrev pub hex_escape : ℕ → List ℕ
hex_escape byte = codes "\\x" ++ digit_pair hex_digits byte

-- the escape of a byte: a letter if it has one, hex digits for other ASCII control characters, and
-- the byte itself otherwise
abbrev pub escaped_byte : ℕ → List ℕ
escaped_byte byte =
    option_map_or (λ e. 92 ∷ e.1 ∷ []) (find (λ e. e.0 == byte) letter_escapes)
    (if is_ascii_control byte then hex_escape byte else byte ∷ [])

-- escapes a string
unfoldable pub escaped_string : List ℕ → List ℕ
escaped_string text = flat_map escaped_byte text

-- escapes a string and encloses it in double quotes
abbrev pub quoted_string : List ℕ → List ℕ
quoted_string text = (34 ∷ escaped_string text) ++ 34 ∷ []

-- the character of a letter after a backslash; `e` is the escape character
abbrev pub letter_char : ℕ → Option ℕ
letter_char letter = option_map (λ e. e.0)
    (find (λ e. e.1 == letter) (letter_escapes ++ (27, 101) ∷ []))

-- The escape sequence represents this character: a backslash and the character's letter, or `\x`,
-- an optional plus sign, and the character's number in hex digits, at most 255.
abbrev pub IsEscapeOf : List ℕ → ℕ → Type 0
IsEscapeOf text c =
    ((letter : ℕ) × (text ≡ 92 ∷ letter ∷ []) × (letter_char letter ≡ Some c))
    ⊎ ((digits : List ℕ) × (text ≡ codes "\\x" ++ digits)
    × IsNumeral 16 (without_leading_plus digits)
    × (digits_value 16 (without_leading_plus digits) ≡ c) × (c < 2 ^ 8))
