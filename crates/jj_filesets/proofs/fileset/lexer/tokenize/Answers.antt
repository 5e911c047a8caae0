use Rattle.std.proofs.Common.{◌∙◌, length, refl, sym}
use Rattle.std.proofs.lemmas.List.{nil_from_length}
use Rattle.std.proofs.lemmas.Result.{err_from_is_err_and}
use Rattle.jj_filesets.proofs.Lexed.{lexed_space, lexed_token, lexed_error, lexed_all}
use Rattle.jj_filesets.proofs.fileset.lexer.tokenize.Goals as goal

pub loop-byte-preserved-then-is_space : goal.loop-byte-preserved-then-is_space
loop-byte-preserved-then-is_space c =
    lexed_space (length c.args.text.now) c.args.text.now c.loop-byte.rest.now c.loop-byte.lexemes.items c.in-Some.byte.now c.in-Some.after.now
    c.loop-byte.invariant c.in-Some.ensures.cases.0 (sym c.is_space.ensures ∙ c.if-is_space.true)

pub returns-in_err-token-clause-error : goal.returns-in_err-token-clause-error
returns-in_err-token-clause-error c =
    let p = err_from_is_err_and c.from_residual.result c.from_residual.ensures.1 in
    rw (p.1, p.2)
    (lexed_error (length c.args.text.now) c.args.text.now c.loop-byte.rest.now c.loop-byte.lexemes.items c.in-Some.byte.now c.in-Some.after.now c.in_err-token.field-0.0
    c.loop-byte.invariant c.in-Some.ensures.cases.0 (sym c.is_space.ensures ∙ c.if-is_space.false) c.in_err-token.ensures.token refl)

pub loop-byte-preserved : goal.loop-byte-preserved
loop-byte-preserved c =
    lexed_token (length c.args.text.now) _ c.args.text.now c.loop-byte.rest.now c.loop-byte.lexemes.items c.push.new.self.items c.in-Some.byte.now c.in-Some.after.now c.in_ok-token.after.now c.in_ok-token.token
    c.loop-byte.invariant c.in-Some.ensures.cases.0 (sym c.is_space.ensures ∙ c.if-is_space.false) c.in_ok-token.ensures.token c.in_ok-token.ensures.shorter refl c.in_ok-push.ensures.items

pub returns-clause-tokens : goal.returns-clause-tokens
returns-clause-tokens c =
    lexed_all (length c.args.text.now) c.args.text.now c.loop-byte.rest.now c.loop-byte.lexemes.items c.loop-byte.invariant (nil_from_length c.loop-byte.rest.now c.in_default.ensures.cases)
