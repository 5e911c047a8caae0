-- Proofs about escapes: characters that have no letter and are not ASCII control characters are
-- unchanged.
use Rattle.std.proofs.Common.{◌≡◌, ℕ, ◌<◌, ◌≤◌, List, [], length, ◌∷◌, ◌++◌, false, true, None, refl, arith}
use Rattle.std.specs.Prelude.{find, ◌==◌}
use Rattle.std.specs.List.{flat_map}
use Rattle.std.specs.Char.{is_ascii_control}
use Rattle.std.proofs.lemmas.List.{append-nil}
use Rattle.std.proofs.lemmas.Str.{encode_ascii}
use Rattle.std.proofs.lemmas.Bool.Decides.{nat_tests}
use lib.Utf8.{encode}
use Rattle.jj_content.specs.Symbols.{letter_escapes, hex_escape, escaped_byte, escaped_string}
use Rattle.jj_content.proofs.EscapeLoops.{plain_character, one_more_written, all_written}

-- a character with a letter escape
pub escaped_letter : (c : ℕ) (piece : List ℕ) → c < 128 → escaped_byte c ≡ piece → flat_map escaped_byte (encode c) ≡ piece
escaped_letter c piece small e = rw (encode_ascii c small, e, append-nil piece) refl

-- a control character without a letter escape
pub control_byte : (c : ℕ) → find (λ e. e.0 == c) letter_escapes ≡ None → true ≡ is_ascii_control c → escaped_byte c ≡ hex_escape c
control_byte c none control = rw (none, ← control) refl

plain_byte : (c : ℕ) → find (λ e. e.0 == c) letter_escapes ≡ None → false ≡ is_ascii_control c → escaped_byte c ≡ c ∷ []
plain_byte c none plain = rw (none, ← plain) refl

high_byte : (b : ℕ) → 128 ≤ b → escaped_byte b ≡ b ∷ []
high_byte b high = grind (arith, nat_tests)

-- a character that is unchanged
pub escaped_plain : (c : ℕ) → find (λ e. e.0 == c) letter_escapes ≡ None → false ≡ is_ascii_control c → flat_map escaped_byte (encode c) ≡ encode c
escaped_plain c none plain = plain_character escaped_byte c (plain_byte c none plain) high_byte

-- loop step: one more character
pub escaped_step : (buffer buffer' piece rest rest' whole : List ℕ) → buffer' ≡ buffer ++ flat_map escaped_byte piece → rest ≡ piece ++ rest' → buffer ++ escaped_string rest ≡ whole → buffer' ++ escaped_string rest' ≡ whole
unfolding escaped_string
escaped_step = one_more_written escaped_byte

-- loop exit
pub escaped_end : (buffer rest whole : List ℕ) → length rest ≡ 0 → buffer ++ escaped_string rest ≡ whole → buffer ≡ whole
unfolding escaped_string
escaped_end = all_written escaped_byte
