-- Paths as strings, built by appending components with the standard library's `path_join`.
-- Cited by contracts of public items: fs_text, is_dots, or_dot.
use Rattle.std.specs.Prelude.{ℕ, Bool, ◌||◌, List, [], ◌∷◌}
use Rattle.std.specs.Str.{bytes_eq}
use Rattle.std.specs.Path.{path_join, root_dir, cur_dir, parent_dir}

-- appends components to a path, in order
abbrev pub join_all : List ℕ → List (List ℕ) → List ℕ
join_all base [] = base
join_all base (part ∷ parts) = join_all (path_join base part) parts

-- replaces the empty path by `.`
abbrev pub or_dot : List ℕ → List ℕ
or_dot [] = cur_dir
or_dot (b ∷ bs) = b ∷ bs

-- the path of nested names in a directory
abbrev pub fs_text : List ℕ → List (List ℕ) → List ℕ
fs_text base names = or_dot (join_all base names)

-- the component is `.` or `..`
abbrev pub is_dots : List ℕ → Bool
is_dots name = bytes_eq name cur_dir || bytes_eq name parent_dir

-- the component is not a name: `/`, `.` or `..`
abbrev pub is_special_component : List ℕ → Bool
is_special_component component = bytes_eq component root_dir || is_dots component
