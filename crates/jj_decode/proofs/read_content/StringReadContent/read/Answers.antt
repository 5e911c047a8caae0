use Rattle.std.proofs.lemmas.Result.{err_from_is_err_and}
use Rattle.jj_content.specs.Content.{string_content}
use Rattle.jj_decode.specs.Decoding.{IsString}
use Rattle.jj_decode.proofs.ContentAt.{error_image}
use Rattle.jj_decode.proofs.read_content.StringReadContent.read.Goals as goal

pub returns-in_err-string-clause-malformed : goal.returns-in_err-string-clause-malformed
returns-in_err-string-clause-malformed c =
    let p = err_from_is_err_and c.from_residual.result c.from_residual.ensures.1 in
    rw (p.1, p.2) (error_image IsString string_content c.args.bytes.now c.args.start
    c.in_err-string.field-0.0 c.in_err-string.ensures.malformed)
