-- String patterns as contracts see them.
-- Cited by contracts of public items: pattern_of.
use Rattle.std.specs.Prelude.{string_bytes}
use Rattle.jj_strings.specs.declared.str_util.pattern.StringPattern.{StringPattern}
use Rattle.jj_strings.specs.declared.str_util.pattern.StringPattern.TheVariants.{Exact, ExactI, Substring, SubstringI, Glob, GlobI, Regex, RegexI}
use Rattle.jj_strings.specs.StringSets.{Pattern, exact, exact_i, substring, substring_i, glob, glob_i, regex, regex_i}

-- the pattern as plain data
abbrev pub pattern_of : StringPattern → Pattern
pattern_of (Exact text) = exact (string_bytes text)
pattern_of (ExactI text) = exact_i (string_bytes text)
pattern_of (Substring text) = substring (string_bytes text)
pattern_of (SubstringI text) = substring_i (string_bytes text)
pattern_of (Glob pattern) = glob pattern.value
pattern_of (GlobI pattern) = glob_i pattern.value
pattern_of (Regex pattern) = regex pattern.value
pattern_of (RegexI pattern) = regex_i pattern.value
