-- Parsing of patterns by the name of a kind.
-- Cited by contracts of public items: IsRegexIOf, IsRegexOf, IsUnknownKind, ParsesAsKind,
-- bytes_config, bytes_config_i, kind_named.
use Rattle.std.specs.Prelude.{◌≡◌, ℕ, true, false, if◌then◌else◌, List, Option, None, Some, Result, Ok, Err, codes, string_bytes}
use Rattle.std.specs.Str.{bytes_eq}
use Rattle.regex.specs.Patterns.{Config, default_config}
use Rattle.regex.specs.Bytes.{regex_source, regex_config, IsReadFromSource}
use Rattle.jj_strings.specs.declared.str_util.kind.PatternKind.{PatternKind}
use Rattle.jj_strings.specs.declared.str_util.kind.PatternKind.TheVariants.{Exact, ExactI, Substring, SubstringI, Glob, GlobI, Regex, RegexI}
use Rattle.jj_strings.specs.declared.str_util.pattern.StringPattern.{StringPattern}
use Rattle.jj_strings.specs.declared.str_util.error.StringPatternParseError.{StringPatternParseError}
use Rattle.jj_strings.specs.declared.str_util.error.StringPatternParseError.TheVariants.{InvalidKind, Memory}
use Rattle.jj_strings.specs.PatternErrors.{IsMemory, IsGlobError, IsRegexError}
use Rattle.jj_strings.specs.PatternViews.{pattern_of}
use Rattle.jj_strings.specs.StringSets.{Pattern, exact, exact_i, substring, substring_i, glob_i, regex, regex_i, string_glob, glob_or_exact}

-- the kind of this name
abbrev pub kind_named : List ℕ → Option PatternKind
kind_named name =
    if bytes_eq name (codes "exact") then Some Exact else
    if bytes_eq name (codes "exact-i") then Some ExactI else
    if bytes_eq name (codes "substring") then Some Substring else
    if bytes_eq name (codes "substring-i") then Some SubstringI else
    if bytes_eq name (codes "glob") then Some Glob else
    if bytes_eq name (codes "glob-i") then Some GlobI else
    if bytes_eq name (codes "regex") then Some Regex else
    if bytes_eq name (codes "regex-i") then Some RegexI else None

-- the options of a regular expression over bytes, case-sensitive or not
abbrev pub bytes_config : Config
bytes_config = record default_config { utf8 = false }

-- the configuration of a regular expression over bytes that ignores case
abbrev pub bytes_config_i : Config
bytes_config_i = record bytes_config {
  flags = record bytes_config.flags
      { case_insensitive = true };
}

-- the pattern is the regular expression that parsing the string with these options results in
abbrev pub IsRegexOf : Config → List ℕ → Pattern → Type 0
IsRegexOf config text (regex r) = (regex_source r ≡ text) × (regex_config r ≡ config)
    × IsReadFromSource r
IsRegexOf config text pattern = ⊥

-- the case-insensitive variant
abbrev pub IsRegexIOf : Config → List ℕ → Pattern → Type 0
IsRegexIOf config text (regex_i r) = (regex_source r ≡ text) × (regex_config r ≡ config)
    × IsReadFromSource r
IsRegexIOf config text pattern = ⊥

-- the pattern is that of the string, parsed as this kind
abbrev pub IsOfKind : PatternKind → List ℕ → Pattern → Type 0
IsOfKind Exact text pattern = pattern ≡ exact text
IsOfKind ExactI text pattern = pattern ≡ exact_i text
IsOfKind Substring text pattern = pattern ≡ substring text
IsOfKind SubstringI text pattern = pattern ≡ substring_i text
IsOfKind Glob text pattern = pattern ≡ glob_or_exact text
IsOfKind GlobI text pattern = pattern ≡ glob_i (string_glob text true)
IsOfKind Regex text pattern = IsRegexOf bytes_config text pattern
IsOfKind RegexI text pattern = IsRegexIOf bytes_config_i text pattern

-- the error of a string that does not parse as this kind
abbrev pub IsErrorOfKind : PatternKind → List ℕ → StringPatternParseError → Type 0
IsErrorOfKind Glob text error = IsGlobError text error
IsErrorOfKind GlobI text error = IsGlobError text error
IsErrorOfKind Regex text error = IsRegexError bytes_config text error
IsErrorOfKind RegexI text error = IsRegexError bytes_config_i text error
IsErrorOfKind kind text error = IsMemory error

-- the result of parsing the string as this kind
abbrev pub ParsesAsKind : PatternKind → List ℕ → Result StringPattern StringPatternParseError
    → Type 0
ParsesAsKind kind text (Ok pattern) = IsOfKind kind text (pattern_of pattern)
ParsesAsKind kind text (Err error) = IsErrorOfKind kind text error

-- no kind has this name, which the error contains
abbrev pub IsInvalidKind : List ℕ → StringPatternParseError → Type 0
IsInvalidKind name Memory = Unit {0}
IsInvalidKind name (InvalidKind text) = string_bytes text ≡ name
IsInvalidKind name error = ⊥

-- parsing fails since no kind has this name
abbrev pub IsUnknownKind : List ℕ → Result StringPattern StringPatternParseError → Type 0
IsUnknownKind name (Ok pattern) = ⊥
IsUnknownKind name (Err error) = IsInvalidKind name error
