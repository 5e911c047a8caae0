-- Errors of parsing string patterns.
-- Cited by contracts of public items: IsGlobError, IsRegexError, of_glob_error, of_regex_error.
use Rattle.std.specs.Prelude.{◌≡◌, ℕ, List, Err}
use Rattle.regex.specs.Sources.{IsRefusal}
use Rattle.regex.specs.Failures.{IsRightKind}
use Rattle.regex.specs.Patterns.{Config}
use Rattle.regex.specs.declared.error.Error as regexes
use Rattle.regex.specs.declared.error.Error.TheVariants.{OutOfMemory}
use Rattle.jj_globs.specs.declared.glob.error.GlobError.{GlobError}
use Rattle.jj_globs.specs.declared.glob.error.GlobError.TheVariants.{Memory as no_room}
use Rattle.jj_strings.specs.declared.str_util.error.StringPatternParseError.{StringPatternParseError}
use Rattle.jj_strings.specs.declared.str_util.error.StringPatternParseError.TheVariants.{GlobPattern, Regex, Memory}
use Rattle.jj_globs.specs.GlobSyntax.{tokens_of}

-- conversion of the error of a glob
abbrev pub of_glob_error : GlobError → StringPatternParseError
of_glob_error no_room = Memory
of_glob_error error = GlobPattern error

-- conversion of the error of a regular expression
abbrev pub of_regex_error : regexes.Error → StringPatternParseError
of_regex_error OutOfMemory = Memory
of_regex_error error = Regex error

-- memory ran out
abbrev pub IsMemory : StringPatternParseError → Type 0
IsMemory error = error ≡ Memory

-- the first syntax error of the glob, or memory ran out
abbrev pub IsGlobError : List ℕ → StringPatternParseError → Type 0
IsGlobError text Memory = Unit {0}
IsGlobError text (GlobPattern error) = tokens_of text ≡ Err error
IsGlobError text error = ⊥

-- a syntax error of the regular expression, its excessive size, or memory ran out
abbrev pub IsRegexError : Config → List ℕ → StringPatternParseError → Type 0
IsRegexError config text Memory = Unit {0}
IsRegexError config text (Regex error) = IsRefusal config text error × IsRightKind config text error
IsRegexError config text error = ⊥
