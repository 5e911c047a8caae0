use Rattle.std.proofs.Common.{◌<◌, ◌+◌, ◌-◌, ◌^◌, arith}
use Rattle.jj_content.specs.Content.{u64_content}
use Rattle.jj_decode.proofs.ContentAt.{none_if_truncated}
use Rattle.jj_decode.proofs.IntegerBytes.{u64_decoded, u64_length}
use Rattle.jj_decode.proofs.integers.read_u64.Goals as goal

pub returns-then-bytes-start-lt8-clause-malformed : goal.returns-then-bytes-start-lt8-clause-malformed
returns-then-bytes-start-lt8-clause-malformed c =
    rw c.truncated.ensures
    (none_if_truncated (λ n. n < 2 ^ 64) u64_content c.args.bytes.now c.args.start 8
    (λ n _. u64_length n) (omega arith) (omega arith))

pub returns-clause-decoded : goal.returns-clause-decoded
returns-clause-decoded c =
    u64_decoded c.args.bytes.now c.args.start c.from_le_bytes-number.result
    (c.args.start + 8 - c.args.start) (λ i. omega (arith, c.type_inv.bytes i)) (omega arith)
    (omega arith) c.from_le_bytes-number.ensures
