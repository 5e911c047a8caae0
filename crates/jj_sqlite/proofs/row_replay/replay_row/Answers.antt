use Rattle.std.proofs.lemmas.Result.{err_from_is_err_and}
use Rattle.jj_sqlite.proofs.RowReplays.{good_now, still_wrong, wrong_now}
use Rattle.jj_sqlite.proofs.row_replay.replay_row.Goals as goal

pub returns-in_err-backend-clause-next : goal.returns-in_err-backend-clause-next
returns-in_err-backend-clause-next c =
    let p = err_from_is_err_and c.from_residual.result c.from_residual.ensures.1 in
    rw (p.1, p.2) (λ rows wrong. still_wrong rows c.args.row.now c.in_err-backend.field-0.0 (rw c.in_err-backend.was at wrong))

pub returns-in_err-entry-clause-next : goal.returns-in_err-entry-clause-next
returns-in_err-entry-clause-next c =
    let p = err_from_is_err_and c.from_residual-in_err-entry.result c.from_residual-in_err-entry.ensures.1 in
    rw (p.1, p.2) (λ rows before. wrong_now rows c.args.row.now c.in_ok-backend.field-0 (rw c.in_ok-backend.was at before) c.in_err-entry.field-0.0 c.in_err-entry.ensures.wrong)

pub returns-clause-next : goal.returns-clause-next
returns-clause-next c = λ rows before.
    good_now rows c.args.row.now c.in_ok-backend.field-0 (rw c.in_ok-backend.was at before) c.in_ok-entry.entry c.replay_next.result c.in_ok-entry.ensures.ok c.in_ok-entry.ensures.number
    c.replay_next.ensures.next
