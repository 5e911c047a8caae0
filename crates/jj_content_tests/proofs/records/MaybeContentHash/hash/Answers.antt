use Rattle.std.proofs.lemmas.Result.{on_err_weaker}
use Rattle.jj_content.proofs.AbsorbedPrefixes.{prefix_next}
use Rattle.jj_content_tests.proofs.records.MaybeContentHash.hash.Goals as goal

pub returns-in_ok-hash-in-Just-clause-err : goal.returns-in_ok-hash-in-Just-clause-err
returns-in_ok-hash-in-Just-clause-err g c =
    rw c.in-Just.is (on_err_weaker c.hash-in-Just-2.result (λ f. prefix_next _ _ _ _ _ _ c.in_ok-hash-in-Just.ensures.ok f) c.hash-in-Just-2.ensures.err)
