use Rattle.std.proofs.Common.{sym, subst, arith}
use Rattle.sqlite.specs.Held.{state}
use Rattle.sqlite.specs.State.{HasCleanDisk}
use Rattle.jj_sqlite.specs.Inserts.{StoresEntries}
use Rattle.jj_sqlite.proofs.Batches.{begun, kept_log}
use Rattle.jj_sqlite.proofs.sqlite_batch.SqliteBatch.begin.Goals as goal

pub returns-in-Ok-clause-ok : goal.returns-in-Ok-clause-ok
returns-in-Ok-clause-ok g c = λ entries had.
    begun g.S.Store g.met.S.Store.settled c.into_connection-conn.result c.begin_transaction.new.conn c.in-Ok.field-0 entries
    (λ clean. let before : HasCleanDisk (state g.S.Store c.into_connection-conn.result) = omega (arith, c.begin_transaction.ensures.survives.clean) in before) c.schema-schema.ensures.live c.in-Ok.ensures.runs
    (subst (λ conn. StoresEntries g.S.Store conn entries) (sym c.into_connection-conn.ensures) had)

pub returns-in-Err-clause-unchanged : goal.returns-in-Err-clause-unchanged
returns-in-Err-clause-unchanged g c = λ entries had.
    kept_log g.S.Store c.into_connection-conn.result c.begin_transaction.new.conn c.in-Err.cause entries c.in-Err.ensures.runs c.begin_transaction.ensures.survives
    (subst (λ conn. StoresEntries g.S.Store conn entries) (sym c.into_connection-conn.ensures) had)
