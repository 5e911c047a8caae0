use Rattle.std.proofs.Common.{◌≡◌, ◌+◌, drop, map, subst}
use Rattle.std.specs.Prelude.{string_bytes}
use Rattle.std.proofs.lemmas.Result.{err_from_is_err_and}
use Rattle.jj_log.specs.CommandLines.{after_words, command_line}
use Rattle.jj_log.proofs.NextWord.{next_word}
use Rattle.jj_log.proofs.arguments.parse_words.Goals as goal

pub returns-in_err-line : goal.returns-in_err-line
returns-in_err-line c =
    let all = map (λ word. string_bytes word) c.args.words.now in
    let p = err_from_is_err_and c.from_residual.result c.from_residual.ensures.1 in
    rw (p.1, p.2) (subst (λ r. after_words r (c.loop-index.index + 1) (drop (c.loop-index.index + 1) all) ≡ command_line all) c.in_err-line.was
    (next_word c.args.words.now c.loop-index.index c.index-words-index.result c.as_bytes.result.now c.loop-index.line c.after_word.result
    c.loop-index-test.true c.index-words-index.is c.as_bytes.ensures.value c.after_word.ensures c.loop-index.invariant))

pub loop-index-preserved : goal.loop-index-preserved
loop-index-preserved c =
    let all = map (λ word. string_bytes word) c.args.words.now in
    subst (λ r. after_words r (c.loop-index.index + 1) (drop (c.loop-index.index + 1) all) ≡ command_line all) c.in_ok-line.was
    (next_word c.args.words.now c.loop-index.index c.index-words-index.result c.as_bytes.result.now c.loop-index.line c.after_word.result
    c.loop-index-test.true c.index-words-index.is c.as_bytes.ensures.value c.after_word.ensures c.loop-index.invariant)
