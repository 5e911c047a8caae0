use Rattle.std.proofs.lemmas.Result.{err_from_is_err_and}
use Rattle.jj_mirror.proofs.EntryErrors.{copy_added, copy_error}
use Rattle.jj_mirror.proofs.entry_writes.write_copy.Goals as goal

pub returns-in_err-id-clause-error : goal.returns-in_err-id-clause-error
returns-in_err-id-clause-error c =
    let p = err_from_is_err_and c.from_residual-in_err-id.result c.from_residual-in_err-id.ensures.1 in
    rw p.1 (copy_error c.args.backend.now c.args.entry.now c.in_ok-history.history c.in_err-id.field-0.0 p.0 c.requires.id_length c.requires.kind c.in_ok-history.ensures.ok c.in_err-id.ensures.error p.2)

pub returns-clause-ok : goal.returns-clause-ok
returns-clause-ok c =
    copy_added c.args.backend.now c.write_copy.new.self c.args.entry.now c.in_ok-history.history c.in_ok-id.id c.requires.id_length c.requires.kind c.in_ok-history.ensures.ok c.in_ok-id.ensures.id c.in_ok-check_id.ensures.ok
    c.in_ok-id.ensures.ok c.in_ok-id.ensures.frame
