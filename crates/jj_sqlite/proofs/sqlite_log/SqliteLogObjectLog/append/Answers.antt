use Rattle.std.proofs.Common.{arith}
use Rattle.sqlite.specs.Held.{state}
use Rattle.sqlite.specs.State.{HasCleanDisk}
use Rattle.jj_sqlite.proofs.Crashes.{appended, failed_append, appends_or_not}
use Rattle.jj_sqlite.proofs.sqlite_log.SqliteLogObjectLog.append.Goals as goal

pub returns-in-Ok-clause-ok : goal.returns-in-Ok-clause-ok
returns-in-Ok-clause-ok g c = λ entries had.
    appended g.S.Store g.met.S.Store.settled c.args.self.now.conn c.insert_entry.new.conn (record { kind = c.args.kind; id = c.args.id.now; bytes = c.args.bytes.now }) c.in-Ok.field-0 entries
    (λ clean. let before : HasCleanDisk (state g.S.Store c.args.self.now.conn) = omega (arith, c.insert_entry.ensures.survives.clean) in before) c.in-Ok.ensures.runs had

pub returns-in-Err-clause-unchanged : goal.returns-in-Err-clause-unchanged
returns-in-Err-clause-unchanged g c = λ entries had.
    failed_append g.S.Store g.met.S.Store.settled c.args.self.now.conn c.insert_entry.new.conn (record { kind = c.args.kind; id = c.args.id.now; bytes = c.args.bytes.now }) c.in-Err.error entries
    c.in-Err.ensures.runs c.insert_entry.ensures.survives had

pub returns-in-Err-clause-error : goal.returns-in-Err-clause-error
returns-in-Err-clause-error g c = (c.insert_entry.new.conn, c.in-Err.error, c.in-Err.ensures.runs, c.convert_error.ensures)

pub returns-in-Err-clause-cause : goal.returns-in-Err-clause-cause
returns-in-Err-clause-cause g c = (c.in-Err.error, c.in-Err.ensures.runs, c.convert_error.ensures)

pub returns-in-Ok-clause-crash : goal.returns-in-Ok-clause-crash
returns-in-Ok-clause-crash g c = appends_or_not g.S.Store c.args.self.now.conn c.insert_entry.new.conn (record { kind = c.args.kind; id = c.args.id.now; bytes = c.args.bytes.now }) c.insert_entry.ensures.survives

pub returns-in-Err-clause-crash : goal.returns-in-Err-clause-crash
returns-in-Err-clause-crash g c = appends_or_not g.S.Store c.args.self.now.conn c.insert_entry.new.conn (record { kind = c.args.kind; id = c.args.id.now; bytes = c.args.bytes.now }) c.insert_entry.ensures.survives
