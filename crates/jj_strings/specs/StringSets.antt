-- String patterns and set expressions over them: syntax, and the sets of byte strings that they
-- denote.
-- Cited by contracts of public items: HasRegex, InExpression, InPattern, IsRegex, IsUnionOf,
-- all_exact_strings, everything, exact, exact_i, exact_string, glob_i, glob_or_exact, intersection,
-- is_all, not_in, nothing, of_pattern, source_of, string_glob, substring, substring_i, union.
use Rattle.std.specs.Prelude.{◌≡◌, ℕ, ◌/◌, ◌<◌, ◌⊎◌, Bool, true, false, ◌==◌, if◌then◌else◌, List, [], ◌∷◌, ◌++◌, length, Option, None, Some, IsSome}
use Rattle.std.specs.Option.{option_to_list}
use Rattle.std.specs.List.{list_any}
use Rattle.std.specs.Borrow.{Bor}
use Rattle.bstr.specs.Text.{Contains}
use Rattle.regex.specs.Patterns.{find}
use Rattle.regex.specs.Bytes.{regex_pattern, regex_source}
use Rattle.regex.specs.declared.bytes.regex.Regex.{Regex}
use Rattle.jj_strings.specs.CaseFolding.{lowercase}
use Rattle.jj_globs.specs.GlobEscape.{is_special}
use Rattle.jj_strings.specs.StringGlobs.{StringGlob, as_glob}
use Rattle.jj_globs.specs.GlobMeaning.{IsMatch}

-- 1. Patterns.

-- a string pattern; variants that end in `_i` are case-insensitive
pub data Pattern : Type 0 where
  exact : List ℕ → Pattern
  exact_i : List ℕ → Pattern
  substring : List ℕ → Pattern
  substring_i : List ℕ → Pattern
  glob : StringGlob → Pattern
  glob_i : StringGlob → Pattern
  regex : Regex → Pattern
  regex_i : Regex → Pattern

-- the byte string is in the set of the pattern
abbrev pub InPattern : Pattern → List ℕ → Type 0
InPattern (exact text) bytes = bytes ≡ text
InPattern (exact_i text) bytes = lowercase bytes ≡ lowercase text
InPattern (substring text) bytes = Contains bytes text
InPattern (substring_i text) bytes = Contains (lowercase bytes) (lowercase text)
InPattern (glob g) bytes = IsMatch (as_glob g) bytes
InPattern (glob_i g) bytes = IsMatch (as_glob g) bytes
InPattern (regex r) bytes = IsSome (find (regex_pattern r) bytes 0)
InPattern (regex_i r) bytes = IsSome (find (regex_pattern r) bytes 0)

-- the string that the pattern was created from
abbrev pub source_of : Pattern → List ℕ
source_of (exact text) = text
source_of (exact_i text) = text
source_of (substring text) = text
source_of (substring_i text) = text
source_of (glob g) = g.text
source_of (glob_i g) = g.text
source_of (regex r) = regex_source r
source_of (regex_i r) = regex_source r

-- the empty string
abbrev pub is_empty_string : List ℕ → Bool
is_empty_string [] = true
is_empty_string (b ∷ bs) = false

-- the string `*`
abbrev pub is_one_star : List ℕ → Bool
is_one_star (b ∷ []) = b == 42
is_one_star text = false

-- the pattern trivially matches every string: an empty substring, an empty regular expression, or
-- the glob `*`
abbrev pub is_all : Pattern → Bool
is_all (exact text) = false
is_all (exact_i text) = false
is_all (substring text) = is_empty_string text
is_all (substring_i text) = is_empty_string text
is_all (glob g) = is_one_star g.text
is_all (glob_i g) = is_one_star g.text
is_all (regex r) = is_empty_string (regex_source r)
is_all (regex_i r) = is_empty_string (regex_source r)

-- the string of an exact pattern
abbrev pub exact_string : Pattern → Option (List ℕ)
exact_string (exact text) = Some text
exact_string pattern = None

-- the pattern is a regular expression
abbrev pub IsRegex : Pattern → Type 0
IsRegex (regex r) = Unit {0}
IsRegex (regex_i r) = Unit {0}
IsRegex pattern = ⊥

-- the regular expression of a pattern, or none if the pattern is no regular expression
abbrev pub IsRegexIn : Option (Bor Regex) → Pattern → Type 0
IsRegexIn (Some r) (regex s) = r.now ≡ s
IsRegexIn (Some r) (regex_i s) = r.now ≡ s
IsRegexIn (Some r) p = ⊥
IsRegexIn None p = IsRegex p → ⊥

-- a glob of this string
abbrev pub string_glob : List ℕ → Bool → StringGlob
string_glob text icase = record { text = text; icase = icase }

-- a glob without any of `? * [ ] { } \` is an exact pattern
abbrev pub glob_or_exact : List ℕ → Pattern
glob_or_exact text = if list_any is_special text then glob (string_glob text false) else exact text

-- 2. Expressions.

-- a set expression over patterns
pub data Expression : Type 0 where
  of_pattern : Pattern → Expression
  not_in : Expression → Expression
  union : Expression → Expression → Expression
  intersection : Expression → Expression → Expression

-- the byte string is in the set of the expression
abbrev pub InExpression : Expression → List ℕ → Type 0
InExpression (of_pattern p) bytes = InPattern p bytes
InExpression (not_in e) bytes = InExpression e bytes → ⊥
InExpression (union a b) bytes = InExpression a bytes ⊎ InExpression b bytes
InExpression (intersection a b) bytes = InExpression a bytes × InExpression b bytes

-- the set of all strings
abbrev pub everything : Expression
everything = of_pattern (substring [])

-- the empty set
abbrev pub nothing : Expression
nothing = not_in everything

-- the strings of the exact patterns, from left to right
abbrev pub all_exact_strings : Expression → List (List ℕ)
all_exact_strings (of_pattern p) = option_to_list (exact_string p)
all_exact_strings (not_in e) = all_exact_strings e
all_exact_strings (union a b) = all_exact_strings a ++ all_exact_strings b
all_exact_strings (intersection a b) = all_exact_strings a ++ all_exact_strings b

-- the expression contains a regular expression
abbrev pub HasRegex : Expression → Type 0
HasRegex (of_pattern p) = IsRegex p
HasRegex (not_in e) = HasRegex e
HasRegex (union a b) = HasRegex a ⊎ HasRegex b
HasRegex (intersection a b) = HasRegex a ⊎ HasRegex b

-- the union of a list: of none, `nothing`; of one, itself; of more, the union of those of both
-- halves
pub data IsUnionOf : List Expression → Expression → Type 0 where
  of_none : IsUnionOf [] nothing
  of_one : (e : Expression) → IsUnionOf (e ∷ []) e
  of_halves : (es prefix back : List Expression) (a b : Expression) → es ≡ prefix ++ back
      → length prefix ≡ length es / 2 → 1 < length es
      → IsUnionOf prefix a → IsUnionOf back b → IsUnionOf es (union a b)
