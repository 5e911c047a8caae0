use Rattle.std.proofs.lemmas.Result.{err_from_is_err_and}
use Rattle.jj_decode.specs.contracts.records.commits.CommitReadContent.TheImpl as commit
use Rattle.jj_decode.specs.contracts.records.commits.CopyHistoryReadContent.TheImpl as copy
use Rattle.jj_decode.specs.contracts.records.trees.TreeReadContent.TheImpl as tree
use Rattle.jj_mirror.proofs.ReplayedEntries.{replay_push}
use Rattle.jj_mirror.proofs.ReplayedNext.{fails_now, still_failed}
use Rattle.jj_mirror.proofs.replay.replay_next.Goals as goal

pub returns-in_err-backend-clause-next : goal.returns-in_err-backend-clause-next
returns-in_err-backend-clause-next c =
    let p = err_from_is_err_and c.from_residual.result c.from_residual.ensures.1 in
    rw (p.1, p.2) (λ entries failed.
    still_failed copy.ghosts.errors tree.ghosts.errors commit.ghosts.errors entries c.args.entry.now c.in_err-backend.field-0.0 (rw c.in_err-backend.was at failed))

pub returns-in_err-write_entry-clause-next : goal.returns-in_err-write_entry-clause-next
returns-in_err-write_entry-clause-next c =
    let p = err_from_is_err_and c.from_residual-in_err-write_entry.result c.from_residual-in_err-write_entry.ensures.1 in
    rw (p.1, p.2) (λ entries replay.
    fails_now copy.ghosts.errors tree.ghosts.errors commit.ghosts.errors entries c.args.entry.now c.in_ok-backend.backend (rw c.in_ok-backend.was at replay)
    c.in_err-write_entry.field-0.0 c.in_err-write_entry.ensures.error c.in_err-write_entry.ensures.cause)

pub returns-clause-next : goal.returns-clause-next
returns-clause-next c = λ entries replay.
    replay_push entries c.in_ok-backend.backend c.write_entry.new.backend c.args.entry.now (rw c.in_ok-backend.was at replay) c.in_ok-write_entry.ensures.ok
