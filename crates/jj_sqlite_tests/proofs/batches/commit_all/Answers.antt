use Rattle.std.proofs.Common.{◌++◌, List, inl, take, subst}
use Rattle.std.proofs.lemmas.List.{take_all}
use Rattle.jj_mirror.specs.Entries.{LogEntryValue}
use Rattle.jj_sqlite.specs.Batches.{IsBatch}
use Rattle.jj_sqlite_tests.proofs.BatchedEntries.{if_err, if_ok, one_more_entry}
use Rattle.jj_sqlite_tests.proofs.batches.commit_all.Goals as goal

pub loop-entry-preserved : goal.loop-entry-preserved
loop-entry-preserved g c = λ kept before had.
    let i = c.loop-entry.entry-index in
    let entries = c.args.entries.now in
    subst (IsBatch g.S.Store c.append_entry.new.batch.conn kept) (one_more_entry entries i c.entry-item.result before c.loop-entry-test.true c.entry-item.is)
    (c.in-Ok.ensures.ok kept (before ++ take i entries) (c.loop-entry.invariant kept before had))

pub returns-in-Err-clause-crash : goal.returns-in-Err-clause-crash
returns-in-Err-clause-crash g c =
    rw c.into_connection.ensures (λ kept before had clean db left.
    inl ((c.in-Err.ensures.err kept (before ++ take c.loop-entry.entry-index c.args.entries.now) (c.loop-entry.invariant kept before had)).crash clean db left))

pub returns-clause-ok : goal.returns-clause-ok
returns-clause-ok g c = if_ok c.commit.result (λ log stores kept before had.
    stores kept (before ++ c.args.entries.now)
    (subst (λ (l : List LogEntryValue). IsBatch g.S.Store c.loop-entry.batch.conn kept (before ++ l)) (take_all c.loop-entry.entry-index c.args.entries.now c.loop-entry-test.false) (c.loop-entry.invariant kept before had))) c.commit.ensures.ok

pub returns-clause-crash : goal.returns-clause-crash
returns-clause-crash g c = if_err c.commit.result (λ e leaves kept before had.
    leaves kept (before ++ c.args.entries.now)
    (subst (λ (l : List LogEntryValue). IsBatch g.S.Store c.loop-entry.batch.conn kept (before ++ l)) (take_all c.loop-entry.entry-index c.args.entries.now c.loop-entry-test.false) (c.loop-entry.invariant kept before had))) c.commit.ensures.crash
