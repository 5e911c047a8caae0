use Rattle.std.proofs.Common.{rules}
use Rattle.jj_strings.specs.CompiledViews.{source_pattern}
use Rattle.jj_strings.proofs.RegexSearches.{regex_search}
use Rattle.jj_strings.proofs.str_util.compiled.CompiledExpression.+search.Goals as goal

pub returns-in_ok-matcher-in-Some : goal.returns-in_ok-matcher-in-Some
returns-in_ok-matcher-in-Some t c =
    rw c.in-Pattern.is
    (regex_search (source_pattern c.in-Pattern.pattern.value) c.in-Some.regex c.in_ok-matcher-in-Some.field-0
    (search rules) c.in_ok-matcher-in-Some.ensures.pattern)
