-- Strings of paths as people and tools write them.
-- Cited by contracts of public items: without_dot.
use Rattle.std.specs.Prelude.{ℕ, ◌-◌, Bool, false, not, ◌==◌, ◌&&◌, ◌||◌, nat_lt, if◌then◌else◌, List, [], ◌∷◌, length, slice_index, take, codes}
use Rattle.std.specs.List.{list_all, slice_split}
use Rattle.std.specs.Str.{bytes_eq}

-- the string without `./` at its start; `.` is the root
abbrev pub without_dot : List ℕ → List ℕ
without_dot [] = []
without_dot (b ∷ []) = if b == 46 then [] else b ∷ []
without_dot (b ∷ c ∷ bs) = if b == 46 && c == 47 then bs else b ∷ c ∷ bs

-- the string without `/` at its end, unless it is `/`
abbrev pub without_slash : List ℕ → List ℕ
without_slash text =
    if nat_lt 1 (length text) && slice_index text (length text - 1) == 47
    then take (length text - 1) text else text

-- the string without `./` at its start and `/` at its end
abbrev pub plain_path : List ℕ → List ℕ
plain_path text = without_slash (without_dot text)

-- the string begins with a slash
abbrev pub is_absolute : List ℕ → Bool
is_absolute [] = false
is_absolute (b ∷ bs) = b == 47

-- the names of the directory itself and of the one above
abbrev pub is_dot_name : List ℕ → Bool
is_dot_name name = bytes_eq name (codes ".") || bytes_eq name (codes "..")

-- not absolute, and without the names `.` and `..`
abbrev pub is_relative : List ℕ → Bool
is_relative text = not (is_absolute text)
    && list_all (λ name. not (is_dot_name name)) (slice_split (λ b. b == 47) text)
