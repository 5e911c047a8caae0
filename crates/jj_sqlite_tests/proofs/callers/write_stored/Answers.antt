use Rattle.jj_sqlite_tests.proofs.callers.write_stored.Goals as goal

pub returns-in-Ok-written-clause-logged : goal.returns-in-Ok-written-clause-logged
returns-in-Ok-written-clause-logged g c = λ entries was_new.
    rw (c.into_connection.ensures, c.into_parts-log.ensures)
    (c.in-Ok-written.ensures.logged entries (c.in-Ok.ensures.kept entries was_new) (λ clean. c.in-Ok.ensures.entries clean entries was_new))
