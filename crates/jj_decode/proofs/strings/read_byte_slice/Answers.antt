use Rattle.std.proofs.Common.{◌+◌, ◌-◌, arith}
use Rattle.std.proofs.lemmas.Result.{err_from_is_err_and}
use Rattle.jj_decode.proofs.StringBytes.{bytes_count_error, bytes_decoded}
use Rattle.jj_decode.proofs.strings.read_byte_slice.Goals as goal

pub returns-in_err-count-clause-malformed : goal.returns-in_err-count-clause-malformed
returns-in_err-count-clause-malformed c =
    let p = err_from_is_err_and c.from_residual.result c.from_residual.ensures.1 in
    rw (p.1, p.2) (bytes_count_error c.args.bytes.now c.args.start c.in_err-count.field-0.0
    c.in_err-count.ensures.malformed)

pub returns-clause-decoded : goal.returns-clause-decoded
returns-clause-decoded c =
    bytes_decoded c.args.bytes.now c.args.start c.in_ok-count.count c.in_ok-count.mid
    (c.in_ok-count.mid + c.in_ok-count.count - c.in_ok-count.mid)
    c.in_ok-count.ensures.decoded c.in_ok-count.ensures.bounded (omega arith)
