use Rattle.std.proofs.Common.{◌∙◌, sym, ap, ◌/◌, ◌<◌, length, arith}
use Rattle.jj_strings.specs.ExpressionViews.{expression_of}
use Rattle.jj_strings.proofs.Unions.{union_of_one, union_of_none, union_of_halves}
use Rattle.jj_strings.proofs.str_util.expression.StringExpression.+union_all.Goals as goal
use Rattle.jj_strings.proofs.str_util.expression.StringExpression.+union_all.Goals.{in-Some, in-None}

pub returns-then-len-lt2 : goal.returns-then-len-lt2
returns-then-len-lt2 t c =
    let es = c.args.expressions.items in
    let short : length es < 2 = omega (arith, c.args.expressions.ok.0, c.len.ensures, c.if-len-lt2.true) in
    elim c.match-pop.branch [
      | in-Some w ↦ rw w.result-is (union_of_one es c.pop.new.self.items w.in-Some.only w.in-Some.ensures.items short)
      | in-None w ↦ rw w.result-is (union_of_none es w.none.result (sym c.args.expressions.ok.0 ∙ w.in-None.ensures.cases.0) w.none.ensures)
    ]

pub returns : goal.returns
returns t c =
    union_of_halves c.args.expressions.items c.split_off.new.self.items c.in_ok-right.right.items (c.len-2.result / 2)
    (expression_of c.in_ok-left.left) (expression_of c.in_ok-right-2.right) c.union.result
    c.in_ok-right.ensures.items c.in_ok-right.ensures.tail
    (ap (λ k. k / 2) (c.len-2.ensures ∙ c.args.expressions.ok.0))
    (omega (arith, c.args.expressions.ok.0, c.len.ensures, c.if-len-lt2.false))
    c.in_ok-left.ensures c.in_ok-right-2.ensures c.union.ensures
