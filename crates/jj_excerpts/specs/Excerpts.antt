-- Excerpts of byte strings in messages.
-- Cited by contracts of public items: excerpt_of.
use Rattle.std.specs.Prelude.{ℕ, ◌-◌, Bool, ◌==◌, ◌&&◌, nat_le, nat_lt, if◌then◌else◌, List, [], ◌∷◌, ◌++◌, take, length, codes}
use Rattle.std.specs.Str.Lossy.{utf8_lossy}
use Rattle.jj_content.specs.Symbols.{quoted_string}

-- a byte of a character after its first one
abbrev pub is_continuation : ℕ → Bool
is_continuation byte = nat_le 128 byte && nat_le byte 191

-- the longest prefix with at most so many characters
unfoldable pub shown : ℕ → List ℕ → List ℕ
shown most [] = []
shown most (b ∷ bs) = if is_continuation b then b ∷ shown most bs
    else (if most == 0 then [] else b ∷ shown (most - 1) bs)

-- the first 60 characters, of at most four bytes each
abbrev pub first_characters : List ℕ → List ℕ
first_characters bytes = shown 60 (take 240 bytes)

-- three dots after a string of which this prefix is not all
abbrev pub dots_after : List ℕ → List ℕ → List ℕ
dots_after prefix bytes = if nat_lt (length prefix) (length bytes) then codes "..." else []

-- the first characters in double quotes, escaped, with U+FFFD for bytes that are not UTF-8
abbrev pub excerpt_of : List ℕ → List ℕ
excerpt_of bytes = quoted_string (utf8_lossy (first_characters bytes))
    ++ dots_after (first_characters bytes) bytes
