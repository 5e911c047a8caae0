use Rattle.std.proofs.lemmas.Result.{on_ok_weaker}
use Rattle.jj_merges.proofs.merge.contents.MergeContentHash.hash.Goals as goal

pub returns-clause-ok : goal.returns-clause-ok
returns-clause-ok g c = rw (← c.as_slice.ensures.terms) c.hash.ensures.ok

pub returns-clause-value : goal.returns-clause-value
returns-clause-value g c =
    on_ok_weaker c.hash.result (λ values. (c.as_slice.ensures.odd, rw (← c.as_slice.ensures.terms) values)) c.hash.ensures.value

pub returns-clause-err : goal.returns-clause-err
returns-clause-err g c = rw (← c.as_slice.ensures.terms) c.hash.ensures.err
