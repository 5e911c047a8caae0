-- Relative file system paths as repository paths, by the components of the standard library
-- (`path_components`).
-- Cited by contracts of public items: IsParseError, is_disallowed, relative_components.
use Rattle.std.specs.Prelude.{◌≡◌, ⊤, ℕ, Bool, false, true, not, ◌||◌, if◌then◌else◌, List, [], ◌∷◌, Option, Some, IsSomeAnd, string_bytes}
use Rattle.std.specs.Str.{bytes_eq, is_utf8}
use Rattle.std.specs.Path.{cur_dir, path_components}
use Rattle.jj_files.specs.PathJoining.{is_special_component}
use Rattle.jj_paths.specs.declared.repo_path.from_relative.RelativePathParseError.{RelativePathParseError}
use Rattle.jj_paths.specs.declared.repo_path.from_relative.RelativePathParseError.TheVariants.{InvalidComponent, InvalidUtf8, Memory}

-- the components, where `.` as the only one means the root
abbrev pub without_lone_dot : List (List ℕ) → List (List ℕ)
without_lone_dot [] = []
without_lone_dot (first ∷ []) = if bytes_eq first cur_dir then [] else first ∷ []
without_lone_dot (first ∷ second ∷ rest) = first ∷ second ∷ rest

-- the components of a relative path, and none for `.`
abbrev pub relative_components : List ℕ → List (List ℕ)
relative_components path = without_lone_dot (path_components path)

-- the component is not allowed in a repository path: `/`, `.`, `..`, or not UTF-8
abbrev pub is_disallowed : List ℕ → Bool
is_disallowed component = is_special_component component || not (is_utf8 component)

-- the error contains the path and its first component that is not allowed, with the reason, or is
-- out of memory
abbrev pub IsParseError : List ℕ → Option (List ℕ) → RelativePathParseError → Type 0
IsParseError path invalid (InvalidComponent component at) =
    (at.items ≡ path) × (invalid ≡ Some (string_bytes component))
    × (is_special_component (string_bytes component) ≡ true)
IsParseError path invalid (InvalidUtf8 at) =
    (at.items ≡ path) × IsSomeAnd invalid (λ component. is_utf8 component ≡ false)
IsParseError path invalid Memory = ⊤
