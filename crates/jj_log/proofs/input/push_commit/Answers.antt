use Rattle.std.proofs.Common.{arith, ◌≡◌, length}
use Rattle.std.proofs.lemmas.Result.{err_from_is_err_and}
use Rattle.jj_log.proofs.ReadLines.{line_failure}
use Rattle.jj_log.proofs.input.push_commit.Goals as goal

pub returns-in_err-parse_line-clause-error : goal.returns-in_err-parse_line-clause-error
returns-in_err-parse_line-clause-error c =
    let filled : length c.args.line.now ≡ 0 → ⊥ = λ empty. grind (arith) in
    let p = err_from_is_err_and c.from_residual.result c.from_residual.ensures.1 in
    rw (p.1, p.2) (line_failure c.args.number c.args.line.now c.in_err-parse_line.field-0.0 filled c.in_err-parse_line.ensures.error)
