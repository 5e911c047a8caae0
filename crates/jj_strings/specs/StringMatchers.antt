-- String matchers as sets of byte strings.
-- Cited by contracts of public items: InMatcher, IsMatcherOf, IsParsedExpression, IsParsedPattern,
-- MayAllocate.
use Rattle.std.specs.Prelude.{◌≡◌, ◌↔◌, ◌⊎◌, ◌<◌, ◌^◌, ℕ, List, true, All as Every, string_bytes}
use Rattle.regex.specs.Bytes.{regex_config, IsReadFromSource}
use Rattle.regex.specs.declared.bytes.regex.Regex as compiled
use Rattle.jj_strings.specs.Predicates.{Accepts}
use Rattle.jj_strings.specs.declared.str_util.matcher.StringMatcher.{StringMatcher}
use Rattle.jj_strings.specs.declared.str_util.matcher.StringMatcher.TheVariants.{All, Exact, Expr, Fn}
use Rattle.jj_strings.specs.CompiledViews.{source_expression}
use Rattle.jj_strings.specs.MatcherForms.{Form, form_of}
use Rattle.jj_strings.specs.PatternKinds.{bytes_config, bytes_config_i}
use Rattle.jj_strings.specs.StringSets.{Pattern, regex, regex_i, Expression, of_pattern, InExpression, HasRegex, is_all}

-- the byte string is in the set of the matcher
abbrev pub InMatcher : {F : _} {V : _} {m : _} → StringMatcher F V m → List ℕ → Type 0
InMatcher All bytes = Unit {0}
InMatcher (Exact text) bytes = bytes ≡ string_bytes text
InMatcher (Expr e) bytes = InExpression (source_expression e) bytes
InMatcher (Fn p) bytes = Accepts p bytes

-- matching may allocate, and so fail, only for a regular expression
abbrev pub MayAllocate : {F : _} {V : _} {m : _} → StringMatcher F V m → Type 0
MayAllocate (Expr e) = HasRegex (source_expression e)
MayAllocate _ = ⊥

-- the regular expression was parsed from its string, case-sensitive or not
abbrev pub IsParsed : compiled.Regex → Type 0
IsParsed r = IsReadFromSource r × ((regex_config r ≡ bytes_config)
    ⊎ (regex_config r ≡ bytes_config_i))

-- if the pattern is a regular expression, it was parsed from its string
abbrev pub IsParsedRegex : Pattern → Type 0
IsParsedRegex (regex r) = IsParsed r
IsParsedRegex (regex_i r) = IsParsed r
IsParsedRegex p = Unit {0}

-- if the pattern trivially matches everything, it was parsed from its string
abbrev pub IsParsedPattern : Pattern → Type 0
IsParsedPattern p = is_all p ≡ true → IsParsedRegex p

-- IsParsedPattern of a single pattern
abbrev pub IsParsedExpression : Expression → Type 0
IsParsedExpression (of_pattern p) = IsParsedPattern p
IsParsedExpression e = Unit {0}

-- the result of compilation: a matcher of this set, if an empty regular expression was parsed from
-- its string; of this form; and without allocation unless there is a regular expression
pub record IsMatcherOf {F : _} {V : _} {m : _} (is_parsed : Type 0) (in_set : List ℕ → Type 0)
    (expected : Form) (has_regex : Type 0) (matcher : StringMatcher F V m) : Type 0 where
  pub set : is_parsed → (bytes : List ℕ) → Every (λ byte. byte < 2 ^ 8) bytes
      → InMatcher matcher bytes ↔ in_set bytes
  pub form : form_of matcher ≡ expected
  pub memory : MayAllocate matcher → has_regex
