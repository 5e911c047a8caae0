use Rattle.jj_mirror_tests.proofs.logs.replayed_files.Goals as goal

pub returns : goal.returns
returns c =
    let after = c.in_ok-store.ensures.replay in
    c.replay.ensures.again after.0 (rw (c.entries.ensures, c.log.ensures) after.1)
