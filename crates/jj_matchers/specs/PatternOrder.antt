-- Globs sorted by their literal prefixes.
-- Machinery of private functions and fields.
use Rattle.std.specs.Prelude.{ℕ, Bool, true, false, ◌==◌, ◌&&◌, List, [], ◌∷◌, nat_lt, if◌then◌else◌}
use Rattle.std.specs.List.{list_all}
use Rattle.jj_globs.specs.GlobMeaning.{GlobSpec}
use Rattle.jj_globs.specs.GlobPrefix.{glob_prefix}
use Rattle.jj_matchers.specs.Patterns.{is_match, is_prefix_match}

-- lexicographic order of byte strings
abbrev pub is_at_most : List ℕ → List ℕ → Bool
is_at_most [] bytes = true
is_at_most (x ∷ front) [] = false
is_at_most (x ∷ front) (y ∷ bytes) = if x == y then is_at_most front bytes else nat_lt x y

-- the literal prefixes ascend
abbrev pub is_sorted_by_prefix : List GlobSpec → Bool
is_sorted_by_prefix [] = true
is_sorted_by_prefix (glob ∷ globs) =
    list_all (λ later. is_at_most (glob_prefix glob) (glob_prefix later)) globs
    && is_sorted_by_prefix globs

-- whether the glob matches the path, or with the flag an ancestor
abbrev pub matches_string : Bool → GlobSpec → List ℕ → Bool
matches_string prefix_paths glob text =
    if prefix_paths then is_prefix_match glob text else is_match glob text
