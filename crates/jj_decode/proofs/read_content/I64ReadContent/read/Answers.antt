use Rattle.std.specs.Prelude.{FitsSigned}
use Rattle.std.specs.Int.{w64}
use Rattle.std.proofs.lemmas.Result.{err_from_is_err_and}
use Rattle.jj_content.specs.Content.{i64_content}
use Rattle.jj_decode.proofs.ContentAt.{error_image}
use Rattle.jj_decode.proofs.IntegerBytes.{i64_decoded, i64_error}
use Rattle.jj_decode.proofs.read_content.I64ReadContent.read.Goals as goal

pub returns-in_err-bits-clause-malformed : goal.returns-in_err-bits-clause-malformed
returns-in_err-bits-clause-malformed c =
    let p = err_from_is_err_and c.from_residual.result c.from_residual.ensures.1 in
    rw (p.1, p.2) (error_image (FitsSigned w64) i64_content c.args.bytes.now c.args.start
    c.in_err-bits.field-0.0
    (i64_error c.args.bytes.now c.args.start c.in_err-bits.field-0.0
    c.in_err-bits.ensures.malformed))

pub returns-clause-decoded : goal.returns-clause-decoded
returns-clause-decoded c = i64_decoded c.args.bytes.now c.args.start c.in_ok-bits.bits
    c.in_ok-bits.end c.cast_signed.result c.cast_signed.ensures c.in_ok-bits.ensures.decoded
