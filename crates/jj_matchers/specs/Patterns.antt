-- Glob patterns relative to directories: the paths that they accept, and their visits.
-- Cited by contracts of public items: HasSamePatterns, IsAccepted, IsSoundForGlobs, Patterns,
-- is_accepted, opens_to_patterns, pattern_dirs, patterns_spec.
use Rattle.std.specs.Prelude.{◌≡◌, ℕ, Bool, true, false, ◌==◌, ◌&&◌, ◌||◌, List, [], ◌∷◌, ◌++◌, map, if◌then◌else◌, Any}
use Rattle.std.specs.List.{list_any, list_all}
use Rattle.std.specs.Str.{bytes_eq}
use Rattle.jj_paths.specs.Paths.{Name, Path, path_string}
use Rattle.jj_matchers.specs.VisitSpecs.{VisitSpec, all_recursively, specific, nothing}
use Rattle.jj_globs.specs.declared.glob.symbol.Symbol.TheVariants.{Asterisk}
use Rattle.jj_globs.specs.GlobMeaning.{GlobSpec, IsMatch, IsPrefixMatch}
use Rattle.jj_globs.specs.GlobBacktracking.{Outcome, matched, unmatched, malformed, matches}
use Rattle.jj_globs.specs.GlobSyntax.{byte_of}
use Rattle.jj_matchers.specs.PathLists.{has_prefix, leads_to_listed, leads_to_prefix}

-- 1. Strings.

-- the outcome is a match
abbrev pub is_yes : Outcome → Bool
is_yes matched = true
is_yes unmatched = false
is_yes (malformed error) = false

-- whether the glob matches the bytes
unfoldable pub is_match : GlobSpec → List ℕ → Bool
is_match glob bytes = is_yes (matches glob.options glob.text bytes)

-- whether `before` with some prefix of the bytes that a slash follows satisfies the predicate
abbrev pub passes_before_slash : (List ℕ → Bool) → List ℕ → List ℕ → Bool
passes_before_slash test before [] = false
passes_before_slash test before (b ∷ bytes) = ((b == 47) && test before)
    || passes_before_slash test (before ++ b ∷ []) bytes

-- whether the glob matches the bytes, or a prefix of them that a slash follows
unfoldable pub is_prefix_match : GlobSpec → List ℕ → Bool
is_prefix_match glob bytes = is_match glob bytes || passes_before_slash (is_match glob) [] bytes

-- a string of one or more stars, and nothing else
abbrev pub is_stars : List ℕ → Bool
is_stars [] = false
is_stars (b ∷ bytes) = list_all (λ c. c == byte_of Asterisk) (b ∷ bytes)

-- 2. Tails: the rest of a path below a pattern's directory.

-- whether the glob accepts the path with this tail
abbrev pub accepts_tail : Bool → GlobSpec → Path → Bool
accepts_tail prefix_paths glob [] = false
accepts_tail false glob (name ∷ rest) = is_match glob (path_string (name ∷ rest))
accepts_tail true glob (name ∷ rest) = is_prefix_match glob (path_string (name ∷ rest))

-- whether the glob, if paths below a match are accepted, is known to accept all paths below the
-- tail
abbrev pub covers_tail : GlobSpec → Path → Bool
covers_tail glob [] = is_stars glob.text
covers_tail glob (name ∷ rest) = is_prefix_match glob (path_string (name ∷ rest))

-- whether the path is at or below the directory, and its tail satisfies the predicate
abbrev pub tail_passes : Path → (Path → Bool) → Path → Bool
tail_passes [] test path = test path
tail_passes (name ∷ dir) test [] = false
tail_passes (name ∷ dir) test (first ∷ path) = bytes_eq name first && tail_passes dir test path

-- 3. Sets of patterns.

-- each pattern is a directory and a glob; with the flag paths below a match are accepted too
pub record Patterns : Type 0 where
  pub prefix_paths : Bool
  pub patterns : List (Path × GlobSpec)

-- two sets have the same patterns, in any order and with any repetitions
pub record HasSamePatterns (set other : Patterns) : Type 0 where
  pub mode : set.prefix_paths ≡ other.prefix_paths
  pub members : (test : Path × GlobSpec → Bool)
      → list_any test set.patterns ≡ list_any test other.patterns

-- the directories of the patterns
abbrev pub pattern_dirs : Patterns → List Path
pattern_dirs set = map (λ pattern. pattern.0) set.patterns

-- whether a pattern accepts the path
abbrev pub is_accepted : Patterns → Path → Bool
is_accepted set path = list_any (λ pattern.
    tail_passes pattern.0 (accepts_tail set.prefix_paths pattern.1) path) set.patterns

-- whether all paths below the directory are known to be accepted
abbrev pub is_covered : Patterns → Path → Bool
is_covered set dir = set.prefix_paths && list_any
    (λ pattern. tail_passes pattern.0 (covers_tail pattern.1) dir) set.patterns

-- the directories that a walk may enter: those at, above or below a pattern's directory
abbrev pub opens_to_patterns : Patterns → Path → Bool
opens_to_patterns set dir = has_prefix (pattern_dirs set) dir
    || leads_to_prefix (pattern_dirs set) dir

-- the visit of a directory: everything if it is covered, else all children at or below a pattern's
-- directory, else only directories on the way to one
abbrev pub patterns_spec : Patterns → Path → VisitSpec
patterns_spec set dir =
    if is_covered set dir then all_recursively
    else (if has_prefix (pattern_dirs set) dir then specific (λ name. true) (λ name. true)
    else (if leads_to_listed (pattern_dirs set) dir then specific
    (λ name. leads_to_prefix (pattern_dirs set) (dir ++ name ∷ [])) (λ name. false) else nothing))

-- 4. The paths that a set accepts, without an algorithm.

-- the glob matches the string, or with the flag a prefix of it that a slash follows
abbrev pub MatchesString : Bool → GlobSpec → List ℕ → Type 0
MatchesString false glob text = IsMatch glob text
MatchesString true glob text = IsPrefixMatch glob text

-- the path is strictly below the directory of a pattern whose glob matches the tail
abbrev pub IsAccepted : Patterns → Path → Type 0
IsAccepted set path = Any (λ pattern. (name : Name) × (rest : Path)
    × (path ≡ pattern.0 ++ name ∷ rest) × MatchesString set.prefix_paths pattern.1
    (path_string (name ∷ rest))) set.patterns

-- soundness of a visit in terms of `IsAccepted`: all paths strictly below the directory are
-- accepted; or the accepted children are among the files, and the first names of accepted deeper
-- paths among the directories; or none is accepted
abbrev pub IsSoundForGlobs : Patterns → Path → VisitSpec → Type 0
IsSoundForGlobs set dir all_recursively = (name : Name) (rest : Path)
    → IsAccepted set (dir ++ name ∷ rest)
IsSoundForGlobs set dir (specific dirs files) =
    ((name : Name) → IsAccepted set (dir ++ name ∷ []) → files name ≡ true)
    × ((name next : Name) (rest : Path) → IsAccepted set (dir ++ name ∷ next ∷ rest)
    → dirs name ≡ true)
IsSoundForGlobs set dir nothing = (name : Name) (rest : Path)
    → IsAccepted set (dir ++ name ∷ rest) → ⊥
