use Rattle.std.proofs.Common.{rules, subst}
use Rattle.jj_filesets.specs.Expressions.{IsParseError, IsUnspelled}
use Rattle.jj_filesets_cli.proofs.program.selection_of.Goals as goal

pub returns-in_ok-place-in-Err-Syntax-clause-error : goal.returns-in_ok-place-in-Err-Syntax-clause-error
returns-in_ok-place-in-Err-Syntax-clause-error c =
    let unspelled = subst (IsUnspelled c.args.expression.now) c.in-Err-Syntax.field-0-is c.in-Err-Syntax.ensures.unspelled in
    let cause = subst (IsParseError c.args.expression.now) c.in-Err-Syntax.field-0-is c.in-Err-Syntax.ensures.cause in
    c.usage_error.ensures c.args.expression.now (record { unspelled = search (rules, unspelled); cause = search (rules, cause); place = search rules })
