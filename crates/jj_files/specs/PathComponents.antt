-- Lexical normalization as a rewriting system on path components, and relative paths.
-- Cited by contracts of public items: IsNormalized, IsRelativeTo.
use Rattle.std.specs.Prelude.{◌≡◌, ◌⊎◌, ℕ, Bool, false, not, List, [], ◌∷◌, ◌++◌, map}
use Rattle.std.specs.Path.{cur_dir, parent_dir, path_components}
use Rattle.jj_files.specs.PathJoining.{fs_text, is_special_component}

-- one rewriting step: removes a `.`, or a name and the `..` after it
abbrev pub Reduces : List (List ℕ) → List (List ℕ) → Type 0
Reduces before after = (prefix back : List (List ℕ)) × (after ≡ prefix ++ back)
    × ((before ≡ prefix ++ cur_dir ∷ back)
    ⊎ ((name : List ℕ) × (is_special_component name ≡ false)
    × (before ≡ prefix ++ name ∷ parent_dir ∷ back)))

-- zero or more steps
pub data ReducesTo : List (List ℕ) → List (List ℕ) → Type 0 where
  none : {components : List (List ℕ)} → ReducesTo components components
  more : {before between after : List (List ℕ)} → ReducesTo before between → Reduces between after
      → ReducesTo before after

-- a normal form: no further step applies
pub record IsNormalForm (components left : List (List ℕ)) : Type 0 where
  pub steps : ReducesTo components left
  pub ended : (less : List (List ℕ)) → Reduces left less → ⊥

-- the string is the path's normal form, or `.` if that is empty
abbrev pub IsNormalized : List ℕ → List ℕ → Type 0
IsNormalized path text =
    (left : List (List ℕ)) × IsNormalForm (path_components path) left × (text ≡ fs_text [] left)

-- the last component is a name: not `/`, `.` or `..`
abbrev pub ends_in_name : List (List ℕ) → Bool
ends_in_name [] = false
ends_in_name (last ∷ []) = not (is_special_component last)
ends_in_name (first ∷ second ∷ rest) = ends_in_name (second ∷ rest)

-- `prefix` is the longest common prefix of the components, and `from_left` and `to_left` are the
-- remaining ones.
pub record HasCommonPrefix (from to : List ℕ)
    (prefix from_left to_left : List (List ℕ)) : Type 0 where
  pub from_parts : path_components from ≡ prefix ++ from_left
  pub to_parts : path_components to ≡ prefix ++ to_left
  pub apart : (next : List ℕ) (from_rest to_rest : List (List ℕ)) → from_left ≡ next ∷ from_rest
      → to_left ≡ next ∷ to_rest → ⊥

-- a `..` for each component of the first list, then the second list
abbrev pub relative_components : List (List ℕ) → List (List ℕ) → List (List ℕ)
relative_components from_left to_left = map (λ _. parent_dir) from_left ++ to_left

-- the path from one to the other, given the common prefix
abbrev pub relative_string : List ℕ → (prefix from_left to_left : List (List ℕ)) → List ℕ
relative_string to [] from_left to_left = to
relative_string to (first ∷ prefix) from_left to_left =
    fs_text [] (relative_components from_left to_left)

-- the string is the path from `from` to `to`
abbrev pub IsRelativeTo : List ℕ → List ℕ → List ℕ → Type 0
IsRelativeTo from to text = (prefix from_left to_left : List (List ℕ))
    × HasCommonPrefix from to prefix from_left to_left
    × (text ≡ relative_string to prefix from_left to_left)
