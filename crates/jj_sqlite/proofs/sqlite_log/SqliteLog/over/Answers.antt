use Rattle.std.proofs.Common.{arith}
use Rattle.sqlite.specs.Held.{state}
use Rattle.sqlite.specs.State.{HasCleanDisk}
use Rattle.jj_sqlite.proofs.Crashes.{created, creates_or_not}
use Rattle.jj_sqlite.proofs.LogTable.{counted_rows_stay, only_rows_stay}
use Rattle.jj_sqlite.proofs.sqlite_log.SqliteLog.over.Goals as goal

pub returns-in-Ok-clause-entries : goal.returns-in-Ok-clause-entries
returns-in-Ok-clause-entries g c = λ entries had.
    created g.S.Store g.met.S.Store.settled c.args.conn c.create_table.new.conn c.in-Ok.field-0 entries
    (λ clean. let before : HasCleanDisk (state g.S.Store c.args.conn) = omega (arith, c.create_table.ensures.survives.clean) in before) c.schema-schema.ensures.live c.in-Ok.ensures.runs had

pub returns-in-Ok-clause-damaged : goal.returns-in-Ok-clause-damaged
returns-in-Ok-clause-damaged g c = λ clean entries has.
    let ran = c.in-Ok.ensures.runs clean in
    only_rows_stay (state g.S.Store c.args.conn) (state g.S.Store ran.0) (state g.S.Store c.create_table.new.conn) c.in-Ok.field-0 entries has ran.1 ran.2

pub returns-in-Ok-clause-counted : goal.returns-in-Ok-clause-counted
returns-in-Ok-clause-counted g c = λ clean entries has.
    let ran = c.in-Ok.ensures.runs clean in
    counted_rows_stay (state g.S.Store c.args.conn) (state g.S.Store ran.0) (state g.S.Store c.create_table.new.conn) c.in-Ok.field-0 entries has ran.1 ran.2

pub returns-in-Err-clause-crash : goal.returns-in-Err-clause-crash
returns-in-Err-clause-crash g c = creates_or_not g.S.Store c.args.conn c.create_table.new.conn c.create_table.ensures.survives
