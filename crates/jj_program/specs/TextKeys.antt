-- The first bytes of a string as a number.
-- Machinery of private functions and fields.
use Rattle.std.specs.Prelude.{ℕ, zero, suc, ◌≡◌, ◌+◌, ◌*◌, ◌<◌, List, [], ◌∷◌, ⊤}
use Rattle.jj_program.specs.Lines.{Text}

-- the big-endian number of the bytes of `key` and the next `n`, of which missing ones are 0
abbrev pub key_from : ℕ → ℕ → List ℕ → ℕ
key_from key zero bytes = key
key_from key (suc n) [] = key_from (key * 256) n []
key_from key (suc n) (b ∷ bs) = key_from (key * 256 + b) n bs

-- the first n numbers are bytes
abbrev pub AreBytes : ℕ → List ℕ → Type 0
AreBytes zero bytes = ⊤
AreBytes (suc n) [] = ⊤
AreBytes (suc n) (b ∷ bs) = (b < 256) × AreBytes n bs

-- the big-endian number of the first eight bytes
abbrev pub IsKeyOf : List ℕ → ℕ → Type 0
IsKeyOf text key = (key ≡ key_from 0 8 text) × AreBytes 8 text

abbrev pub text_of : ℕ × Text → Text
text_of entry = entry.1

-- a string after its key
abbrev pub IsEntry : ℕ × Text → Type 0
IsEntry entry = IsKeyOf entry.1.now entry.0
