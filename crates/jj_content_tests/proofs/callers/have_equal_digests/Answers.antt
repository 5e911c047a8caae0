use Rattle.jj_content_tests.proofs.ReviewKeys.{equal_digests}
use Rattle.jj_content_tests.proofs.callers.have_equal_digests.Goals as goal

pub returns : goal.returns
returns c =
    let law = c.content_decides.ensures c.args.first.now c.args.second.now c.in_ok-first_digest.ensures.value c.in_ok-second_digest.ensures.value in
    equal_digests c.args.first.now c.args.second.now law.0 c.eq.result _ _ c.in_ok-first_digest.ensures.digest c.in_ok-second_digest.ensures.digest c.eq.ensures
