-- White space that comparisons of byte strings ignore.
-- Cited by contracts of public items: without_whitespace, with_single_spaces.
use Rattle.std.specs.Prelude.{ℕ, Bool, true, false, List, [], ◌∷◌, filter, not, if◌then◌else◌}
use Rattle.std.specs.Char.{is_ascii_whitespace}

-- the bytes that are no ASCII white space
abbrev pub without_whitespace : List ℕ → List ℕ
without_whitespace = filter (λ byte. not (is_ascii_whitespace byte))

-- A byte before others: one of white space becomes a space, or nothing after white space.
abbrev pub add_spaced : Bool → ℕ → List ℕ → List ℕ
add_spaced after byte rest =
    if is_ascii_whitespace byte then (if after then rest else (32 ∷ rest)) else (byte ∷ rest)

-- the bytes with one space for each run of white space, where `after` is whether white space
-- precedes them
abbrev pub spaced : Bool → List ℕ → List ℕ
spaced after [] = []
spaced after (byte ∷ bytes) = add_spaced after byte (spaced (is_ascii_whitespace byte) bytes)

-- the bytes with one space for each run of ASCII white space
abbrev pub with_single_spaces : List ℕ → List ℕ
with_single_spaces = spaced false

-- Machinery of private functions.

-- whether the bytes end in white space, and `after` if there are none
abbrev pub ends_in_space : Bool → List ℕ → Bool
ends_in_space after [] = after
ends_in_space after (byte ∷ bytes) = ends_in_space (is_ascii_whitespace byte) bytes

-- a space for white space, and any other byte itself
abbrev pub symbol_of : ℕ → ℕ
symbol_of byte = if is_ascii_whitespace byte then 32 else byte

-- the form without white space, or that with single spaces
abbrev pub form_of : Bool → List ℕ → List ℕ
form_of true = without_whitespace
form_of false = with_single_spaces
