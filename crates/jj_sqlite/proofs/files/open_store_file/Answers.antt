use Rattle.std.proofs.Common.{inl, inr}
use Rattle.sqlite.specs.declared.error.Error.TheVariants.{SqliteFailure}
use Rattle.sqlite.specs.declared.error.ErrorCode.TheVariants.{OutOfMemory}
use Rattle.jj_sqlite.proofs.files.open_store_file.Goals as goal

pub returns-in-Err-clause-error : goal.returns-in-Err-clause-error
returns-in-Err-clause-error c = inl (SqliteFailure OutOfMemory, c.from.ensures)

pub returns-in-Ok-open_on-clause-ok : goal.returns-in-Ok-open_on-clause-ok
returns-in-Ok-open_on-clause-ok c = c.in-Ok-open_on.ensures.ok c.in-Ok-open_unlocked.ensures.opened

pub returns-clause-error : goal.returns-clause-error
returns-clause-error c = inr (c.in-Err-open_on.ensures.error c.in-Ok-open_unlocked.ensures.opened)
