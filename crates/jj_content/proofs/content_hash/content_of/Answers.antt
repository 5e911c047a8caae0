use Rattle.std.proofs.Common.{[]}
use Rattle.jj_content.proofs.content_hash.content_of.Goals as goal

pub returns-then-collected-clause-bytes : goal.returns-then-collected-clause-bytes
returns-then-collected-clause-bytes g c =
    c.in_ok-hash.ensures.ok [] (λ _. c.new.ensures.items) c.if-collected.true
