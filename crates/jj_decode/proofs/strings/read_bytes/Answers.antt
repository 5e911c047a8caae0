use Rattle.std.proofs.Common.{arith}
use Rattle.std.proofs.lemmas.Result.{err_from_is_err_and}
use Rattle.jj_decode.proofs.StringBytes.{bytes_contents_error, bytes_as_list}
use Rattle.jj_decode.proofs.strings.read_bytes.Goals as goal

pub returns-in_err-slice-clause-malformed : goal.returns-in_err-slice-clause-malformed
returns-in_err-slice-clause-malformed c =
    let p = err_from_is_err_and c.from_residual.result c.from_residual.ensures.1 in
    rw (p.1, p.2) (bytes_contents_error c.args.bytes.now c.args.start c.in_err-slice.field-0.0
    c.in_err-slice.ensures.malformed)

pub returns-clause-decoded : goal.returns-clause-decoded
returns-clause-decoded c = rw c.in_ok-owned.ensures.items
    (bytes_as_list c.args.bytes.now c.in_ok-slice.slice.now c.args.start c.in_ok-slice.end
    (λ k. omega (arith, c.type_inv.bytes k)) c.in_ok-slice.ensures.decoded)
