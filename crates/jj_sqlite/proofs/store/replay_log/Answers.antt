use Rattle.std.proofs.Common.{inl, inr, [], arith}
use Rattle.std.proofs.lemmas.Result.{err_from_is_err_and}
use Rattle.sqlite.specs.Held.{state}
use Rattle.sqlite.specs.State.{HasCleanDisk}
use Rattle.sqlite.proofs.StateLemmas.{survives_weaker}
use Rattle.jj_sqlite.specs.Tables.{select_statement}
use Rattle.jj_sqlite.proofs.Crashes.{kept_reading}
use Rattle.jj_sqlite.proofs.LogTable.{shown_open}
use Rattle.jj_sqlite.proofs.RowReplays.{count_fails, is_replayed, replay_caused, replay_fails, replays_all, replays_entries, replays_first}
use Rattle.jj_sqlite.proofs.store.replay_log.Goals as goal

pub returns-in-Ok-clause-ok : goal.returns-in-Ok-clause-ok
returns-in-Ok-clause-ok g c = λ clean.
    let made = c.in_ok-backend.ensures.rows (c.check_count.ensures.clean clean) in
    is_replayed g.S.Store c.args.log.now.conn c.replay_rows.new.conn c.check_count.new.conn made.0 c.in_ok-backend.field-0 made.1 made.2 (c.in_ok-check_count.ensures.ok clean) c.in-Ok.backend c.in-Ok.is

pub returns-in-Ok-clause-entries : goal.returns-in-Ok-clause-entries
returns-in-Ok-clause-entries g c = λ clean entries has.
    let old = state g.S.Store c.args.log.now.conn in
    let mid = state g.S.Store c.replay_rows.new.conn in
    let between : HasCleanDisk mid = c.check_count.ensures.clean clean in
    let made = c.in_ok-backend.ensures.rows between in
    let before : HasCleanDisk old = omega (arith, c.replay_rows.ensures.survives.clean) in
    let live = shown_open select_statement [] old mid made.0 made.2 in
    replays_entries g.S.Store c.args.log.now.conn c.replay_rows.new.conn c.check_count.new.conn made.0 c.in_ok-backend.field-0 made.1 made.2 (c.in_ok-check_count.ensures.ok clean) c.in-Ok.backend c.in-Ok.is
    entries (has before live)

pub returns-in-Ok-clause-damaged : goal.returns-in-Ok-clause-damaged
returns-in-Ok-clause-damaged g c = λ clean entries has.
    let made = c.in_ok-backend.ensures.rows (c.check_count.ensures.clean clean) in
    replays_first g.S.Store c.args.log.now.conn c.replay_rows.new.conn c.check_count.new.conn made.0 c.in_ok-backend.field-0 made.1 made.2 (c.in_ok-check_count.ensures.ok clean) c.in-Ok.backend c.in-Ok.is
    entries has

pub returns-in-Ok-clause-counted : goal.returns-in-Ok-clause-counted
returns-in-Ok-clause-counted g c = λ clean entries has.
    let made = c.in_ok-backend.ensures.rows (c.check_count.ensures.clean clean) in
    replays_all g.S.Store c.args.log.now.conn c.replay_rows.new.conn c.check_count.new.conn made.0 c.in_ok-backend.field-0 made.1 made.2 (c.in_ok-check_count.ensures.ok clean) c.in-Ok.backend c.in-Ok.is
    entries has

pub returns-in-Ok-clause-kept : goal.returns-in-Ok-clause-kept
returns-in-Ok-clause-kept g c = λ entries had.
    let old = state g.S.Store c.args.log.now.conn in
    let mid = state g.S.Store c.replay_rows.new.conn in
    c.in_ok-check_count.ensures.kept entries
    (kept_reading g.S.Store g.met.S.Store.settled c.args.log.now.conn c.replay_rows.new.conn entries (λ clean.
    let made = c.in_ok-backend.ensures.rows clean in
    (made.0, made.2)) (survives_weaker old mid _ _ (λ _ db none. absurd none) c.replay_rows.ensures.survives) had)

pub returns-in-Err-clause-error : goal.returns-in-Err-clause-error
returns-in-Err-clause-error g c =
    rw c.from.ensures (λ clean.
    let made = c.in_ok-backend.ensures.rows (c.check_count.ensures.clean clean) in
    inr (replay_fails g.S.Store c.args.log.now.conn c.replay_rows.new.conn c.check_count.new.conn made.0 c.in_ok-backend.field-0 made.1 made.2 (c.in_ok-check_count.ensures.ok clean) c.in-Err.error c.in-Err.is))

pub returns-in-Err-clause-cause : goal.returns-in-Err-clause-cause
returns-in-Err-clause-cause g c =
    rw c.from.ensures (λ clean.
    let made = c.in_ok-backend.ensures.rows (c.check_count.ensures.clean clean) in
    replay_caused g.S.Store c.args.log.now.conn c.replay_rows.new.conn c.check_count.new.conn made.0 c.in_ok-backend.field-0 made.1 made.2 (c.in_ok-check_count.ensures.ok clean) c.in-Err.error c.in-Err.is)

pub returns-in_err-backend-clause-error : goal.returns-in_err-backend-clause-error
returns-in_err-backend-clause-error g c =
    let p = err_from_is_err_and c.from_residual.result c.from_residual.ensures.1 in
    rw (p.1, p.2) (λ clean. inl (elim (c.in_err-backend.ensures.error clean) [
      | inl query ↦ inl query
      | inr wrong ↦ inr (inl (wrong.0, wrong.2, wrong.1))
    ]))

pub returns-in_err-check_count-clause-error : goal.returns-in_err-check_count-clause-error
returns-in_err-check_count-clause-error g c =
    let p = err_from_is_err_and c.from_residual-in_err-check_count.result c.from_residual-in_err-check_count.ensures.1 in
    rw (p.1, p.2) (λ clean.
    let made = c.in_ok-backend.ensures.rows (c.check_count.ensures.clean clean) in
    inl (count_fails g.S.Store c.args.log.now.conn c.replay_rows.new.conn c.check_count.new.conn made.0 c.in_ok-backend.field-0 made.1 made.2 c.in_err-check_count.field-0.0
    (c.in_err-check_count.ensures.error clean)))
