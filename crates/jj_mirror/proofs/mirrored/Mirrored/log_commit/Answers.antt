use Rattle.std.proofs.lemmas.Result.{err_from_is_err_and}
use Rattle.std.proofs.Common.{◌≡◌}
use Rattle.jj_content.specs.Blake2b.{blake2b}
use Rattle.jj_backend.specs.Contents.{commit_content}
use Rattle.jj_mirror.proofs.FreeDigests.{commit_failure}
use Rattle.jj_mirror.proofs.mirrored.Mirrored.log_commit.Goals as goal

pub returns-in_err-is_stored-clause-error : goal.returns-in_err-is_stored-clause-error
returns-in_err-is_stored-clause-error g c =
    let is : c.digest-id.result ≡ blake2b (commit_content c.args.commit.now) = cc (c.digest-id.ensures, c.deref.ensures.value, c.in_ok-bytes.ensures.bytes) in
    let p = err_from_is_err_and c.from_residual-in_err-is_stored.result c.from_residual-in_err-is_stored.ensures.1 in
    rw (p.1, p.2) (commit_failure g.L.ObjectLog.contains c.args.self.now.log g.L.ObjectLog.may_fail c.args.self.now.backend c.args.commit.now c.digest-id.result c.in_err-is_stored.field-0.0 is c.in_err-is_stored.ensures.error)
