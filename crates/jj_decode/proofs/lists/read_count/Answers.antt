use Rattle.std.proofs.Common.{arith}
use Rattle.jj_decode.proofs.ListItems.{none_if_count_exceeds}
use Rattle.jj_decode.proofs.lists.read_count.Goals as goal

pub returns-then-bytes-mid-clause-malformed : goal.returns-then-bytes-mid-clause-malformed
returns-then-bytes-mid-clause-malformed c =
    rw c.truncated.ensures
    (none_if_count_exceeds c.args.bytes.now c.args.start c.in_ok-count.count c.in_ok-count.mid
    c.requires c.in_ok-count.ensures.decoded (omega arith))
