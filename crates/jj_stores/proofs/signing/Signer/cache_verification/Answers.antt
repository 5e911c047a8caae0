use Rattle.jj_stores.proofs.CacheUpdates.{put_remembered}
use Rattle.jj_stores.proofs.signing.Signer.cache_verification.Goals as goal

pub returns-clause-ok : goal.returns-clause-ok
returns-clause-ok g c =
    rw (c.in_ok-put.ensures.entries, c.in_ok-id.ensures.cases, c.in_ok-verification.ensures.cases)
    (put_remembered _ _ _ _ c.requires c.len-remembered.ensures.valid.2)
