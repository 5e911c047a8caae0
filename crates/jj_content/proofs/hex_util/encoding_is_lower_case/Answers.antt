use Rattle.std.proofs.Common.{sym}
use Rattle.jj_content.proofs.hex_util.encoding_is_lower_case.Goals as goal

pub returns-clause-forward : goal.returns-clause-forward
returns-clause-forward c = λ text bytes reads. sym reads.same

pub returns-clause-reverse : goal.returns-clause-reverse
returns-clause-reverse c = λ text bytes reads. sym reads.same
