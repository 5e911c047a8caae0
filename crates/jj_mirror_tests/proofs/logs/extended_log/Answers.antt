use Rattle.std.proofs.lemmas.Result.{IfErr-weaker}
use Rattle.jj_mirror_tests.proofs.LoggedFiles.{memory_fails}
use Rattle.jj_mirror_tests.proofs.logs.extended_log.Goals as goal

pub returns : goal.returns
returns c =
    let after = c.in_ok-store.ensures.replay in
    IfErr-weaker c.replay.result _ _ (λ e is. memory_fails c.args.log e is) (c.replay.ensures.again after.0 (rw (c.entries.ensures, c.log.ensures) after.1))
