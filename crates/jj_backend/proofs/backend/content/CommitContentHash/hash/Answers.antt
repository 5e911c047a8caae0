use Rattle.std.proofs.Common.{subst}
use Rattle.std.proofs.lemmas.Result.{on_err_weaker}
use Rattle.jj_content.specs.Content.{Absorbs, AbsorbsPrefix}
use Rattle.jj_content.proofs.AbsorbedPrefixes.{prefix_2}
use Rattle.jj_backend.specs.Contents.{origin_content, signers_content}
use Rattle.jj_backend.specs.Records.{CommitValue}
use Rattle.jj_backend.proofs.backend.content.CommitContentHash.hash.Goals as goal

pub returns-clause-err : goal.returns-clause-err
returns-clause-err g c =
    let origin : CommitValue → Type 0 = λ value. Absorbs g.D.DigestUpdate.absorbed c.args.state.now c.hash_three.new.state (origin_content value) in
    let signers : CommitValue → Type 0 = λ value. AbsorbsPrefix g.D.DigestUpdate.absorbed c.hash_message.new.state c.hash_three-2.new.state (signers_content value) in
    on_err_weaker c.hash_three-2.result
    (λ front. prefix_2 _ _ _ _ _ _ _ _ (subst origin c.self.view_is c.in_ok-hash_three.ensures.ok) c.in_ok-hash_message.ensures.ok (subst signers c.self.view_is front))
    c.hash_three-2.ensures.err
