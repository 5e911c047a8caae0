use Rattle.std.proofs.Common.{vec_len}
use Rattle.jj_strings.proofs.str_util.expression.StringExpression.+union_all.Given as goal

abbrev pub decreases-union_all : goal.decreases-union_all
decreases-union_all l = vec_len l.expressions
