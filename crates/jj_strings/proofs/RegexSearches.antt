-- The search of a regular expression matches the strings of its pattern.
use Rattle.std.proofs.Common.{◌≡◌, ◌∙◌, ◌↔◌, ap, subst, Some, IsSome, Bor}
use Rattle.regex.specs.Patterns.{find}
use Rattle.regex.specs.Bytes.{regex_pattern, matcher_pattern}
use Rattle.regex.specs.declared.bytes.regex.Regex.{Regex}
use Rattle.regex.specs.declared.bytes.matcher.Matcher.{Matcher}
use Rattle.jj_strings.specs.declared.str_util.expression_search.ExpressionSearch.TheVariants.{Regex as search_of}
use Rattle.jj_strings.specs.Searches.{IsSearchOf}
use Rattle.jj_strings.specs.StringSets.{Pattern, exact, exact_i, substring, substring_i, glob, glob_i, regex, regex_i, of_pattern, IsRegexIn}

pub regex_search : (q : Pattern) (r : Bor Regex) (m : Matcher) → IsRegexIn (Some r) q
    → matcher_pattern m ≡ regex_pattern r.now → IsSearchOf (search_of m) (of_pattern q)
regex_search (exact text) r m h e = absurd h
regex_search (exact_i text) r m h e = absurd h
regex_search (substring text) r m h e = absurd h
regex_search (substring_i text) r m h e = absurd h
regex_search (glob g) r m h e = absurd h
regex_search (glob_i g) r m h e = absurd h
regex_search (regex s) r m h e = λ bytes.
    subst (λ p. IsSome (find (matcher_pattern m) bytes 0) ↔ IsSome (find p bytes 0))
    (e ∙ ap regex_pattern h) (λ x. x, λ x. x)
regex_search (regex_i s) r m h e = λ bytes.
    subst (λ p. IsSome (find (matcher_pattern m) bytes 0) ↔ IsSome (find p bytes 0))
    (e ∙ ap regex_pattern h) (λ x. x, λ x. x)
