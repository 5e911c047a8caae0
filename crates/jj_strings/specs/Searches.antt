-- The searches of an expression, one for each regular expression.
-- Machinery of private functions and fields.
use Rattle.std.specs.Prelude.{◌≡◌, ◌↔◌, ℕ, List, Option, None, Some, IsSome}
use Rattle.regex.specs.Patterns.{find}
use Rattle.regex.specs.Bytes.{matcher_pattern}
use Rattle.jj_strings.specs.declared.str_util.expression_search.ExpressionSearch.{ExpressionSearch}
use Rattle.jj_strings.specs.declared.str_util.expression_search.ExpressionSearch.TheVariants.{Text, Regex, NotIn', Union', Intersection'}
use Rattle.jj_strings.specs.CompiledViews.{source_pattern}
use Rattle.jj_strings.specs.StringSets.{Expression, of_pattern, not_in, union, intersection, InPattern, IsRegex}

-- the searches have the structure of the expression, and match the strings of its patterns
abbrev pub IsSearchOf : ExpressionSearch → Expression → Type 0
IsSearchOf (Text p) (of_pattern q) = (source_pattern p.now ≡ q) × (IsRegex q → ⊥)
IsSearchOf (Regex m) (of_pattern q) = (bytes : List ℕ)
    → IsSome (find (matcher_pattern m) bytes 0) ↔ InPattern q bytes
IsSearchOf (NotIn' p s) (not_in e) = IsSearchOf s e
IsSearchOf (Union' p s t) (union a b) = IsSearchOf s a × IsSearchOf t b
IsSearchOf (Intersection' p s t) (intersection a b) = IsSearchOf s a × IsSearchOf t b
IsSearchOf s e = ⊥

-- the cached searches, if there are any, are those of the expression
abbrev pub AreSearchesOf : Option ExpressionSearch → Expression → Type 0
AreSearchesOf None e = Unit {0}
AreSearchesOf (Some searches) e = IsSearchOf searches e
