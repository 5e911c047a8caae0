use Rattle.std.proofs.lemmas.Result.{err_from_is_err_and}
use Rattle.jj_mirror.proofs.FreeDigests.{file_failure, file_stored}
use Rattle.jj_mirror.proofs.mirrored.Mirrored.log_file.Goals as goal

pub returns-in_err-is_stored-clause-error : goal.returns-in_err-is_stored-clause-error
returns-in_err-is_stored-clause-error g c =
    let p = err_from_is_err_and c.from_residual.result c.from_residual.ensures.1 in
    rw (p.1, p.2) (file_failure g.L.ObjectLog.contains c.args.self.now.log g.L.ObjectLog.may_fail c.args.self.now.backend c.args.contents.now c.file_digest-id.result c.in_err-is_stored.field-0.0 c.file_digest-id.ensures c.in_err-is_stored.ensures.error)

pub returns-then-is_stored-clause-ok : goal.returns-then-is_stored-clause-ok
returns-then-is_stored-clause-ok g c =
    let once = file_stored g.L.ObjectLog.contains c.args.self.now.log c.args.self.now.backend c.args.contents.now c.file_digest-id.result c.file_digest-id.ensures (c.in_ok-is_stored.ensures.found c.if-is_stored.true) in
    (once.0, (tt, (λ none. none), once.1))
