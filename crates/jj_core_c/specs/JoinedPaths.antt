-- Joined repository paths.
-- Cited by contracts of public items: AreJoinedPaths, paths_of.
use Rattle.std.specs.Prelude.{◌≡◌, List, ℕ, All, IsTrue, length, map, true, ⊤}
use Rattle.std.specs.Str.{IsUtf8}
use Rattle.jj_paths.specs.Paths as paths
use Rattle.jj_core_c.specs.declared.error.Error.{Error}
use Rattle.jj_core_c.specs.declared.error.Error.TheVariants.{Memory, Path}
use Rattle.jj_core_c.specs.Pieces.{are_ends, pieces_of}

-- the byte string is UTF-8, and the string of a path
abbrev pub IsPath : List ℕ → Type 0
IsPath bytes = IsUtf8 bytes × IsTrue (paths.is_path_string bytes)

-- the ends divide the bytes into strings of paths
abbrev pub ArePaths : (bytes ends : List ℕ) → Type 0
ArePaths bytes ends = All IsPath (pieces_of bytes ends)

-- the ends divide the bytes, and each piece is the string of a path
abbrev pub AreJoinedPaths : (bytes ends : List ℕ) → Type 0
AreJoinedPaths bytes ends = (are_ends (length bytes) ends ≡ true) × ArePaths bytes ends

-- the paths that the ends divide
abbrev pub paths_of : (bytes ends : List ℕ) → List paths.Path
paths_of bytes ends = map paths.components (pieces_of bytes ends)

-- a string is no path, or memory ran out
abbrev pub IsPathCause : (IsValid : Type 0) → Error → Type 0
IsPathCause IsValid Memory = ⊤
IsPathCause IsValid Path = ¬ IsValid
IsPathCause IsValid other = ⊥
