use Rattle.jj_strings.proofs.str_util.expression.StringExpression.to_matcher.Goals as goal

pub returns-in-Pattern : goal.returns-in-Pattern
returns-in-Pattern g c = rw (c.in-Pattern.is, ← c.deref.ensures) c.to_matcher.ensures
