use Rattle.std.proofs.Common.{inl, inr, IsTrue, arith}
use Rattle.sqlite.specs.Held.{state}
use Rattle.sqlite.specs.State.{HasCleanDisk}
use Rattle.jj_sqlite.proofs.Batches.{appended_in, closed, failed_in, opened}
use Rattle.jj_sqlite.proofs.sqlite_batch.SqliteBatchObjectLog.append.Goals as goal

pub returns-then-is_autocommit-clause-error : goal.returns-then-is_autocommit-clause-error
returns-then-is_autocommit-clause-error g c = inl (closed _ _ c.is_autocommit.ensures.value c.if-is_autocommit.true, c.convert_error.ensures)

pub returns-in-Ok-clause-appended : goal.returns-in-Ok-clause-appended
returns-in-Ok-clause-appended g c = λ kept entries had.
    let within : IsTrue (state g.S.Store c.args.self.now.conn).in_transaction = opened _ _ c.is_autocommit.ensures.value c.if-is_autocommit.false in
    appended_in g.S.Store g.met.S.Store.settled c.args.self.now.conn c.insert_entry.new.conn (record { kind = c.args.kind; id = c.args.id.now; bytes = c.args.bytes.now }) c.in-Ok.field-0 kept entries
    (λ clean. let before : HasCleanDisk (state g.S.Store c.args.self.now.conn) = omega (arith, c.insert_entry.ensures.survives.clean) in before) within c.in-Ok.ensures.runs had

pub returns-in-Ok-clause-ok : goal.returns-in-Ok-clause-ok
returns-in-Ok-clause-ok g c = λ entries had. (had.0, returns-in-Ok-clause-appended g c had.0 entries had.1)

pub returns-in-Err-clause-kept : goal.returns-in-Err-clause-kept
returns-in-Err-clause-kept g c = λ kept entries had.
    let within : IsTrue (state g.S.Store c.args.self.now.conn).in_transaction = opened _ _ c.is_autocommit.ensures.value c.if-is_autocommit.false in
    failed_in g.S.Store g.met.S.Store.settled c.args.self.now.conn c.insert_entry.new.conn (record { kind = c.args.kind; id = c.args.id.now; bytes = c.args.bytes.now }) c.in-Err.error kept entries
    within c.in-Err.ensures.runs c.insert_entry.ensures.survives had

pub returns-in-Err-clause-unchanged : goal.returns-in-Err-clause-unchanged
returns-in-Err-clause-unchanged g c = λ entries had. (had.0, returns-in-Err-clause-kept g c had.0 entries had.1)

pub returns-in-Err-clause-error : goal.returns-in-Err-clause-error
returns-in-Err-clause-error g c = inr (c.insert_entry.new.conn, c.in-Err.error, c.in-Err.ensures.runs, c.convert_error-in-Err.ensures)
