use Rattle.std.proofs.Common.{arith}
use Rattle.std.proofs.lemmas.Str.{IsCharBoundary-after_ascii}
use Rattle.jj_content.proofs.symbol_util.unescape_char.Goals as goal

pub range_from-requires : goal.range_from-requires
range_from-requires c = λ _. rw c.as_bytes.ensures.value at (IsCharBoundary-after_ascii c.as_bytes.result.now 1 c.as_bytes.ensures.utf8 (omega arith) (omega arith))
