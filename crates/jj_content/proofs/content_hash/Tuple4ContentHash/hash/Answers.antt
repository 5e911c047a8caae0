use Rattle.std.proofs.lemmas.Result.{on_err_weaker}
use Rattle.jj_content.proofs.AbsorbedPrefixes.{prefix_left_2}
use Rattle.jj_content.proofs.content_hash.Tuple4ContentHash.hash.Goals as goal

pub returns-clause-err : goal.returns-clause-err
returns-clause-err g c =
    on_err_weaker c.hash-2.result (λ prefix. prefix_left_2 _ _ _ _ _ _ _ _ c.in_ok-hash_both.ensures.ok c.in_ok-hash.ensures.ok prefix) c.hash-2.ensures.err
