-- Strings of paths to which components are appended.
-- Machinery of private functions and fields.
use Rattle.std.specs.Prelude.{◌≡◌, ℕ, ◌<◌, List, [], ◌∷◌, ◌++◌, length, slice_index}
use Rattle.jj_paths.specs.Paths.{Name, Path}

-- one name appended, after a slash unless the string is empty
abbrev pub append_name : List ℕ → Name → List ℕ
append_name [] name = name
append_name (b ∷ bs) name = (b ∷ bs) ++ 47 ∷ name

-- names appended, one after another
abbrev pub append_names : List ℕ → Path → List ℕ
append_names text [] = text
append_names text (name ∷ rest) = append_names (append_name text name) rest

-- the longer string extends the other one, by a slash first if both it and the extension are
-- nonempty
pub record ExtendsString (text longer : List ℕ) : Type 0 where
  pub more : List ℕ
  pub is : longer ≡ text ++ more
  pub slash : 0 < length text → 0 < length more → slice_index more 0 ≡ 47
