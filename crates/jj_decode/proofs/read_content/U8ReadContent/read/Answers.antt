use Rattle.std.proofs.Common.{◌<◌, ◌^◌, ◌∷◌, []}
use Rattle.std.proofs.lemmas.Result.{IfErr-weaker}
use Rattle.jj_decode.proofs.ContentAt.{error_image}
use Rattle.jj_decode.proofs.read_content.U8ReadContent.read.Goals as goal

pub returns-clause-malformed : goal.returns-clause-malformed
returns-clause-malformed c = IfErr-weaker c.read_u8.result _ _
    (λ e. error_image (λ n. n < 2 ^ 8) (λ n. n ∷ []) c.args.bytes.now c.args.start e)
    c.read_u8.ensures.malformed
