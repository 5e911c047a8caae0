use Rattle.jj_content_tests.proofs.NoteKeys.{equal_keys}
use Rattle.jj_content_tests.proofs.callers.have_equal_keys.Goals as goal

pub returns : goal.returns
returns c =
    let law = c.content_decides.ensures c.args.first.now c.args.second.now c.in_ok-first_key.ensures.value c.in_ok-second_key.ensures.value in
    equal_keys c.args.first.now c.args.second.now law.0 c.eq.result _ _ c.in_ok-first_key.ensures.digest c.in_ok-second_key.ensures.digest c.eq.ensures
