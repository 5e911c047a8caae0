-- Compiled patterns and expressions as contracts see them.
-- Cited by contracts of public items through MatcherForms, StringMatchers.
use Rattle.jj_strings.specs.declared.str_util.compiled.CompiledPattern.{CompiledPattern}
use Rattle.jj_strings.specs.declared.str_util.compiled.CompiledExpression.{CompiledExpression}
use Rattle.jj_strings.specs.declared.str_util.compiled.CompiledExpression.TheVariants.{Pattern as pattern, NotIn', Union', Intersection'}
use Rattle.jj_strings.specs.PatternViews.{pattern_of}
use Rattle.jj_strings.specs.StringSets.{Pattern, Expression, of_pattern, not_in, union, intersection}

-- the pattern that was compiled
abbrev pub source_pattern : CompiledPattern → Pattern
source_pattern c = pattern_of c.pattern

-- the expression that was compiled
abbrev pub source_expression : CompiledExpression → Expression
source_expression (pattern c) = of_pattern (source_pattern c.value)
source_expression (NotIn' p c) = not_in (source_expression c)
source_expression (Union' p a q b) = union (source_expression a) (source_expression b)
source_expression (Intersection' p a q b) =
    intersection (source_expression a) (source_expression b)
