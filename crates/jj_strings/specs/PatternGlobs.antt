-- Translation of patterns to equivalent globs.
-- Cited by contracts of public items: equivalent_glob, glob_icase.
use Rattle.std.specs.Prelude.{ℕ, Bool, false, List, [], ◌∷◌, ◌++◌, Option, None, Some}
use Rattle.jj_globs.specs.GlobEscape.{literal_glob}
use Rattle.jj_strings.specs.StringSets.{Pattern, exact, substring, glob}

-- the escaped string between stars; for the empty string, one star
abbrev pub substring_glob : List ℕ → List ℕ
substring_glob [] = 42 ∷ []
substring_glob (b ∷ bs) = 42 ∷ (literal_glob (b ∷ bs) ++ 42 ∷ [])

-- the glob of a pattern; case-insensitive patterns and regular expressions have none
abbrev pub equivalent_glob : Pattern → Option (List ℕ)
equivalent_glob (exact text) = Some (literal_glob text)
equivalent_glob (substring text) = Some (substring_glob text)
equivalent_glob (glob g) = Some g.text
equivalent_glob pattern = None

-- whether the glob of a pattern ignores ASCII case: never if `StringPattern::glob` parsed it
abbrev pub glob_icase : Pattern → Bool
glob_icase (glob g) = g.icase
glob_icase pattern = false
