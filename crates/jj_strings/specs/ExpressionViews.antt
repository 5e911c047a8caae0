-- Set expressions as contracts see them.
-- Cited by contracts of public items: expression_of.
use Rattle.jj_strings.specs.declared.str_util.expression.StringExpression.{StringExpression}
use Rattle.jj_strings.specs.declared.str_util.expression.StringExpression.TheVariants.{Pattern, NotIn', Union', Intersection'}
use Rattle.jj_strings.specs.PatternViews.{pattern_of}
use Rattle.jj_strings.specs.StringSets.{Expression, of_pattern, not_in, union, intersection}

-- the syntax tree of an expression
abbrev pub expression_of : StringExpression → Expression
expression_of (Pattern p) = of_pattern (pattern_of p.value)
expression_of (NotIn' p e) = not_in (expression_of e)
expression_of (Union' p a q b) = union (expression_of a) (expression_of b)
expression_of (Intersection' p a q b) = intersection (expression_of a) (expression_of b)
