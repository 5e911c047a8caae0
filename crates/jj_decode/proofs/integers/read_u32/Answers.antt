use Rattle.std.proofs.Common.{◌<◌, ◌+◌, ◌-◌, ◌^◌, arith}
use Rattle.jj_content.specs.Content.{u32_content}
use Rattle.jj_decode.proofs.ContentAt.{none_if_truncated}
use Rattle.jj_decode.proofs.IntegerBytes.{u32_decoded, u32_length}
use Rattle.jj_decode.proofs.integers.read_u32.Goals as goal

pub returns-then-bytes-start-lt4-clause-malformed : goal.returns-then-bytes-start-lt4-clause-malformed
returns-then-bytes-start-lt4-clause-malformed c =
    rw c.truncated.ensures
    (none_if_truncated (λ n. n < 2 ^ 32) u32_content c.args.bytes.now c.args.start 4
    (λ n _. u32_length n) (omega arith) (omega arith))

pub returns-clause-decoded : goal.returns-clause-decoded
returns-clause-decoded c =
    u32_decoded c.args.bytes.now c.args.start c.from_le_bytes-number.result
    (c.args.start + 4 - c.args.start) (λ i. omega (arith, c.type_inv.bytes i)) (omega arith)
    (omega arith) c.from_le_bytes-number.ensures
