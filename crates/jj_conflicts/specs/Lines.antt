-- The lines of a byte string. Each ends in LF, except perhaps the last.
-- Cited by contracts of public items: is_terminated, split_lines.
use Rattle.std.specs.Prelude.{ℕ, Bool, true, List, [], ◌∷◌, ◌++◌, ◌==◌, if◌then◌else◌}

-- the lines with a byte before the first
abbrev pub prepended : ℕ → List (List ℕ) → List (List ℕ)
prepended b [] = (b ∷ []) ∷ []
prepended b (line ∷ lines) = (b ∷ line) ∷ lines

-- the lines of a byte string, each with its LF
abbrev pub split_lines : List ℕ → List (List ℕ)
split_lines [] = []
split_lines (b ∷ bs) = if b == 10 then (b ∷ []) ∷ split_lines bs else prepended b (split_lines bs)

-- the byte string is empty or ends in LF
abbrev pub is_terminated : List ℕ → Bool
is_terminated [] = true
is_terminated (b ∷ []) = b == 10
is_terminated (b ∷ c ∷ bs) = is_terminated (c ∷ bs)

-- the byte string, with an LF appended unless it is empty or ends in LF
abbrev pub terminated : List ℕ → List ℕ
terminated text = if is_terminated text then text else text ++ 10 ∷ []
