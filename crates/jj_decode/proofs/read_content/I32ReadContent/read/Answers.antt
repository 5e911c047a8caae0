use Rattle.std.specs.Prelude.{FitsSigned}
use Rattle.std.specs.Int.{w32}
use Rattle.std.proofs.lemmas.Result.{err_from_is_err_and}
use Rattle.jj_content.specs.Content.{i32_content}
use Rattle.jj_decode.proofs.ContentAt.{error_image}
use Rattle.jj_decode.proofs.IntegerBytes.{i32_decoded, i32_error}
use Rattle.jj_decode.proofs.read_content.I32ReadContent.read.Goals as goal

pub returns-in_err-bits-clause-malformed : goal.returns-in_err-bits-clause-malformed
returns-in_err-bits-clause-malformed c =
    let p = err_from_is_err_and c.from_residual.result c.from_residual.ensures.1 in
    rw (p.1, p.2) (error_image (FitsSigned w32) i32_content c.args.bytes.now c.args.start
    c.in_err-bits.field-0.0
    (i32_error c.args.bytes.now c.args.start c.in_err-bits.field-0.0
    c.in_err-bits.ensures.malformed))

pub returns-clause-decoded : goal.returns-clause-decoded
returns-clause-decoded c = i32_decoded c.args.bytes.now c.args.start c.in_ok-bits.bits
    c.in_ok-bits.end c.cast_signed.result c.cast_signed.ensures c.in_ok-bits.ensures.decoded
