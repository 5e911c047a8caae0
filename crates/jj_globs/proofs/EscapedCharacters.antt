-- Escaping, character by character.
use Rattle.std.proofs.Common.{◌≡◌, ℕ, ◌≤◌, ◌≢◌, List, [], ◌∷◌, ◌++◌, arith}
use Rattle.std.specs.List.{flat_map}
use Rattle.std.proofs.lemmas.Bool.Decides.{nat_tests}
use lib.Utf8.{encode}
use Rattle.jj_content.proofs.EscapeLoops.{plain_character, one_more_written}
use Rattle.jj_globs.specs.GlobEscape.{literal_glob, escaped_byte}

plain_byte : (c : ℕ) → c ≢ 63 → c ≢ 42 → c ≢ 91 → c ≢ 93 → c ≢ 123 → c ≢ 125 → c ≢ 92 → escaped_byte c ≡ c ∷ []
plain_byte c h0 h1 h2 h3 h4 h5 h6 = grind (arith, nat_tests)

high_byte : (b : ℕ) → 128 ≤ b → escaped_byte b ≡ b ∷ []
high_byte b high = grind (arith, nat_tests)

-- a character that is not special is unchanged
pub escaped_plain : (c : ℕ) → c ≢ 63 → c ≢ 42 → c ≢ 91 → c ≢ 93 → c ≢ 123 → c ≢ 125 → c ≢ 92 → flat_map escaped_byte (encode c) ≡ encode c
escaped_plain c h0 h1 h2 h3 h4 h5 h6 = plain_character escaped_byte c (plain_byte c h0 h1 h2 h3 h4 h5 h6) high_byte

-- one more character is escaped
pub escaped_step : (buffer buffer' piece rest rest' whole : List ℕ) → buffer' ≡ buffer ++ flat_map escaped_byte piece → rest ≡ piece ++ rest' → buffer ++ literal_glob rest ≡ whole → buffer' ++ literal_glob rest' ≡ whole
unfolding literal_glob
escaped_step = one_more_written escaped_byte
