use Rattle.std.proofs.lemmas.Result.{err_from_is_err_and}
use Rattle.jj_mirror.proofs.EntryErrors.{commit_added, commit_error, commit_wrong}
use Rattle.jj_mirror.proofs.entry_writes.write_commit.Goals as goal

pub returns-in_err-id-clause-error : goal.returns-in_err-id-clause-error
returns-in_err-id-clause-error c =
    let p = err_from_is_err_and c.from_residual-in_err-id.result c.from_residual-in_err-id.ensures.1 in
    rw p.1 (commit_error c.args.backend.now c.args.entry.now c.in_ok-commit.commit c.in_err-id.field-0.0 p.0 c.requires.id_length c.requires.kind c.in_ok-commit.ensures.ok c.in_err-id.ensures.error p.2)

pub returns-in_err-check_id-clause-error : goal.returns-in_err-check_id-clause-error
returns-in_err-check_id-clause-error c =
    let p = err_from_is_err_and c.from_residual-in_err-check_id.result c.from_residual-in_err-check_id.ensures.1 in
    rw (p.1, p.2) (commit_wrong c.args.backend.now c.args.entry.now c.in_ok-commit.commit c.in_ok-id.id c.in_err-check_id.field-0.0 c.requires.id_length c.requires.kind c.in_ok-commit.ensures.ok c.in_ok-id.ensures.id c.in_err-check_id.ensures.error)

pub returns-clause-ok : goal.returns-clause-ok
returns-clause-ok c =
    commit_added c.args.backend.now c.store_commit.new.backend c.args.entry.now c.in_ok-commit.commit c.in_ok-id.id c.requires.id_length c.requires.kind c.in_ok-commit.ensures.ok c.in_ok-id.ensures.id c.in_ok-check_id.ensures.ok
    c.in_ok-id.ensures.parents c.in_ok-id.ensures.ok c.in_ok-id.ensures.frame
