use Rattle.std.proofs.lemmas.Result.{on_err_weaker}
use Rattle.jj_content.proofs.AbsorbedPrefixes.{prefix_2}
use Rattle.jj_stores.proofs.op_store.content.ViewContentHash.hash.Goals as goal

pub returns-clause-err : goal.returns-clause-err
returns-clause-err g c =
    on_err_weaker c.hash_both-2.result
    (prefix_2 g.D.DigestUpdate.absorbed c.args.state.now c.hash_three.new.state c.hash_both.new.state c.hash_both-2.new.state _ _ _
    c.in_ok-hash_three.ensures.ok c.in_ok-hash_both.ensures.ok) c.hash_both-2.ensures.err
