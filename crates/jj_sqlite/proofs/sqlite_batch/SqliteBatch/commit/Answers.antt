use Rattle.std.proofs.Common.{inl, IsTrue, arith}
use Rattle.sqlite.specs.Held.{state}
use Rattle.sqlite.specs.State.{HasCleanDisk}
use Rattle.jj_sqlite.proofs.Batches.{committed_in, failed_commit, opened}
use Rattle.jj_sqlite.proofs.sqlite_batch.SqliteBatch.commit.Goals as goal

pub returns-then-is_autocommit-clause-crash : goal.returns-then-is_autocommit-clause-crash
returns-then-is_autocommit-clause-crash g c = λ kept entries had clean db left. inl (had.crash clean db left)

pub returns-in-Ok-clause-ok : goal.returns-in-Ok-clause-ok
returns-in-Ok-clause-ok g c = λ kept entries had.
    let within : IsTrue (state g.S.Store c.args.self.conn).in_transaction = opened _ _ c.is_autocommit.ensures.value c.if-is_autocommit.false in
    committed_in g.S.Store g.met.S.Store.settled c.args.self.conn c.commit_transaction.new.conn c.in-Ok.field-0 kept entries
    (λ clean. let before : HasCleanDisk (state g.S.Store c.args.self.conn) = omega (arith, c.commit_transaction.ensures.survives.clean) in before) c.schema-schema.ensures.live within c.in-Ok.ensures.runs had

pub returns-in-Err-clause-crash : goal.returns-in-Err-clause-crash
returns-in-Err-clause-crash g c = λ kept entries had.
    let within : IsTrue (state g.S.Store c.args.self.conn).in_transaction = opened _ _ c.is_autocommit.ensures.value c.if-is_autocommit.false in
    failed_commit g.S.Store g.met.S.Store.settled c.args.self.conn c.commit_transaction.new.conn kept entries c.schema-schema.ensures.live within c.commit_transaction.ensures.survives had
