use Rattle.std.proofs.lemmas.Result.{err_from_is_err_and}
use Rattle.jj_decode.proofs.ContentAt.{both_error_first, both_error_second}
use Rattle.jj_decode.proofs.read_content.read_both.Goals as goal

pub returns-in_err-first-clause-malformed : goal.returns-in_err-first-clause-malformed
returns-in_err-first-clause-malformed g c =
    let p = err_from_is_err_and c.from_residual.result c.from_residual.ensures.1 in
    rw (p.1, p.2) (both_error_first g.A.ReadContent.is_content g.B.ReadContent.is_content
    c.args.bytes.now c.args.start c.in_err-first.field-0.0 c.in_err-first.ensures.malformed)

pub returns-in_err-second-clause-malformed : goal.returns-in_err-second-clause-malformed
returns-in_err-second-clause-malformed g c =
    let p = err_from_is_err_and c.from_residual-in_err-second.result
    c.from_residual-in_err-second.ensures.1 in
    rw (p.1, p.2) (both_error_second g.met.A.ReadContent.contents g.B.ReadContent.is_content
    c.args.bytes.now c.args.start c.in_ok-first.mid c.in_ok-first.first c.in_err-second.field-0.0
    c.requires c.in_ok-first.ensures.decoded c.in_err-second.ensures.malformed)
