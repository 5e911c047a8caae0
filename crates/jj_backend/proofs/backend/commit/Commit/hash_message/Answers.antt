use Rattle.std.proofs.Common.{subst}
use Rattle.std.proofs.lemmas.Result.{on_ok_weaker}
use Rattle.jj_backend.specs.Contents.{IsMessage}
use Rattle.jj_backend.proofs.backend.commit.Commit.hash_message.Goals as goal

pub returns-clause-value : goal.returns-clause-value
returns-clause-value g c =
    on_ok_weaker c.hash_both.result (λ values. subst IsMessage c.self.view_is (c.in_ok-hash_strings.ensures.value, values)) c.hash_both.ensures.value
