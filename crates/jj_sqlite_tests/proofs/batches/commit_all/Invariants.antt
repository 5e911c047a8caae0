use Rattle.std.proofs.Common.{List, ◌++◌, take}
use Rattle.jj_mirror.specs.Entries.{LogEntryValue}
use Rattle.jj_sqlite.specs.Batches.{IsBatch}
use Rattle.jj_sqlite_tests.proofs.batches.commit_all.Given as goal

abbrev pub invariant-loop-entry : goal.invariant-loop-entry
invariant-loop-entry g l = (kept before : List LogEntryValue) → IsBatch g.S.Store l.fn.batch.conn kept before → IsBatch g.S.Store l.batch.conn kept (before ++ take l.entry-index l.entries)
