use Rattle.std.proofs.Common.{sym, ◌∙◌}
use Rattle.jj_stores.proofs.CacheUpdates.{promoted_remembered, length-remembered, same_found}
use Rattle.jj_stores.proofs.signing.Signer.verify.Goals as goal

pub returns-in-Some-clause-cached : goal.returns-in-Some-clause-cached
returns-in-Some-clause-cached g c = λ v found. (c.in_ok-verification.ensures.cases ∙ same_found _ _ _ c.in-Some.ensures found, rw c.promote.ensures.entries (promoted_remembered _ _ v _ found c.len-remembered.ensures.valid.1))

pub returns-in-Some-clause-within_capacity : goal.returns-in-Some-clause-within_capacity
returns-in-Some-clause-within_capacity g c =
    rw (c.promote.ensures.entries, promoted_remembered _ _ _ _ (sym c.in-Some.ensures) c.len-remembered.ensures.valid.1)
    (length-remembered _ _ _ _)
