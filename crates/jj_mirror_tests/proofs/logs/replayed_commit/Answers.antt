use Rattle.jj_mirror_tests.proofs.logs.replayed_commit.Goals as goal

pub returns : goal.returns
returns c = λ replay.
    let after = c.log_replayable.ensures replay in
    c.replay.ensures.again after.0 (rw (c.entries.ensures, c.log.ensures) after.1)
