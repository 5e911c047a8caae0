use Rattle.std.proofs.lemmas.Result.{err_from_is_err_and}
use Rattle.jj_decode.proofs.ContentAt.{error_values}
use Rattle.jj_decode.proofs.RoundTrips.{decodes_to_error, no_trailing_bytes}
use Rattle.jj_decode.proofs.decode.decode_content.Goals as goal

pub returns-in_err-value-clause-complete : goal.returns-in_err-value-clause-complete
returns-in_err-value-clause-complete g c = λ x value is.
    let p = err_from_is_err_and c.from_residual.result c.from_residual.ensures.1 in
    let n = error_values g.T.ContentHash.is_value g.T.ContentHash.content g.T.ReadContent.is_content
    c.args.bytes.now 0 c.in_err-value.field-0.0 g.met.T.ReadContent.contents.covers
    c.in_err-value.ensures.malformed in
    rw (p.1, p.2) (decodes_to_error g.T.ContentHash.is_value g.T.ContentHash.content
    c.args.bytes.now (g.T.PartialEq.eq x) c.in_err-value.field-0.0 x value is n)

pub returns-then-end-bytes-clause-complete : goal.returns-then-end-bytes-clause-complete
returns-then-end-bytes-clause-complete g c = λ x value is.
    no_trailing_bytes g.met.T.ContentHash.lawful c.args.bytes.now c.in_ok-value.end
    c.in_ok-value.value c.in_ok-value.ensures.decoded c.if-end-bytes.true x value is
