use Rattle.std.proofs.Common.{◌<◌, ◌^◌}
use Rattle.std.proofs.lemmas.Result.{IfErr-weaker}
use Rattle.jj_content.specs.Content.{u64_content}
use Rattle.jj_decode.proofs.ContentAt.{error_image}
use Rattle.jj_decode.proofs.read_content.U64ReadContent.read.Goals as goal

pub returns-clause-malformed : goal.returns-clause-malformed
returns-clause-malformed c = IfErr-weaker c.read_u64.result _ _
    (λ e. error_image (λ n. n < 2 ^ 64) u64_content c.args.bytes.now c.args.start e)
    c.read_u64.ensures.malformed
