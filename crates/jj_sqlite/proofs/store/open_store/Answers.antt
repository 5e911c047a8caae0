use Rattle.std.proofs.Common.{inr, sym, subst}
use Rattle.sqlite.specs.Held.{state}
use Rattle.sqlite.specs.State.{HasCleanDisk}
use Rattle.jj_sqlite.specs.Opening.{IsOpenError}
use Rattle.jj_sqlite.proofs.Reasons.{of_opened}
use Rattle.jj_sqlite.proofs.store.open_store.Goals as goal

pub returns-in-Ok-replay_log-clause-ok : goal.returns-in-Ok-replay_log-clause-ok
returns-in-Ok-replay_log-clause-ok g c =
    rw (c.beside.ensures.backend, c.beside.ensures.log) (λ clean. (c.in-Ok.log.conn, c.in-Ok.ensures.ok (c.replay_log.ensures.clean clean), c.in-Ok-replay_log.ensures.ok clean))

pub returns-in-Ok-replay_log-clause-entries : goal.returns-in-Ok-replay_log-clause-entries
returns-in-Ok-replay_log-clause-entries g c =
    rw (c.beside.ensures.backend, c.beside.ensures.log) (λ clean entries had. c.in-Ok-replay_log.ensures.entries clean entries (c.in-Ok.ensures.entries entries had).now)

pub returns-in-Ok-replay_log-clause-damaged : goal.returns-in-Ok-replay_log-clause-damaged
returns-in-Ok-replay_log-clause-damaged g c =
    rw (c.beside.ensures.backend, c.beside.ensures.log) (λ clean entries has.
    c.in-Ok-replay_log.ensures.damaged clean entries (c.in-Ok.ensures.damaged (c.replay_log.ensures.clean clean) entries has))

pub returns-in-Ok-replay_log-clause-counted : goal.returns-in-Ok-replay_log-clause-counted
returns-in-Ok-replay_log-clause-counted g c =
    rw (c.beside.ensures.backend, c.beside.ensures.log) (λ clean entries has.
    c.in-Ok-replay_log.ensures.counted clean entries (c.in-Ok.ensures.counted (c.replay_log.ensures.clean clean) entries has))

pub returns-in-Ok-replay_log-clause-kept : goal.returns-in-Ok-replay_log-clause-kept
returns-in-Ok-replay_log-clause-kept g c =
    rw c.beside.ensures.log (λ entries had. c.in-Ok-replay_log.ensures.kept entries (c.in-Ok.ensures.entries entries had))

pub returns-in-Err-replay_log-clause-error : goal.returns-in-Err-replay_log-clause-error
returns-in-Err-replay_log-clause-error g c =
    subst (λ conn. HasCleanDisk (state g.S.Store conn) → IsOpenError g.S.Store c.args.conn conn c.in-Err-replay_log.error) (sym c.into_connection.ensures)
    (λ clean. inr (c.in-Ok.log.conn, c.in-Ok.ensures.ok (c.replay_log.ensures.clean clean), c.in-Err-replay_log.ensures.error clean))

pub returns-in-Err-replay_log-clause-cause : goal.returns-in-Err-replay_log-clause-cause
returns-in-Err-replay_log-clause-cause g c =
    of_opened g.S.Store _ _ _ c.args.conn c.in-Ok.log.conn c.replay_log.new.log.conn c.into_connection.result c.in-Err-replay_log.error c.into_connection.ensures
    (λ clean. c.in-Ok.ensures.ok (c.replay_log.ensures.clean clean)) c.in-Err-replay_log.ensures.cause
