use Rattle.std.proofs.lemmas.Result.{err_from_is_err_and}
use Rattle.jj_filesets.proofs.Compiled.{token_unspelled, compiled}
use Rattle.jj_filesets.proofs.fileset.program.compile.Goals as goal

pub returns-in_err-lexemes-clause-unspelled : goal.returns-in_err-lexemes-clause-unspelled
returns-in_err-lexemes-clause-unspelled c =
    let p = err_from_is_err_and c.from_residual.result c.from_residual.ensures.1 in
    rw (p.1, p.2) (token_unspelled c.args.text.now c.in_err-lexemes.field-0.0 c.in_err-lexemes.ensures.error)

pub returns-clause-spelled : goal.returns-clause-spelled
returns-clause-spelled c =
    (compiled c.args.text.now c.in_ok-lexemes.lexemes.items c.parse_tokens.result (λ program. program.items) c.in_ok-lexemes.ensures.tokens c.parse_tokens.ensures).spelled

pub returns-clause-unspelled : goal.returns-clause-unspelled
returns-clause-unspelled c =
    (compiled c.args.text.now c.in_ok-lexemes.lexemes.items c.parse_tokens.result (λ program. program.items) c.in_ok-lexemes.ensures.tokens c.parse_tokens.ensures).unspelled

pub returns-clause-cause : goal.returns-clause-cause
returns-clause-cause c =
    (compiled c.args.text.now c.in_ok-lexemes.lexemes.items c.parse_tokens.result (λ program. program.items) c.in_ok-lexemes.ensures.tokens c.parse_tokens.ensures).cause
