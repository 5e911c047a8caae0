use Rattle.std.proofs.lemmas.Result.{err_from_is_err_and}
use Rattle.std.proofs.Common.{◌≡◌}
use Rattle.jj_content.specs.Blake2b.{blake2b}
use Rattle.jj_content.specs.Content.{string_content}
use Rattle.jj_mirror.proofs.FreeDigests.{symlink_failure}
use Rattle.jj_mirror.proofs.mirrored.Mirrored.log_symlink.Goals as goal

pub returns-in_err-is_stored-clause-error : goal.returns-in_err-is_stored-clause-error
returns-in_err-is_stored-clause-error g c =
    let is : c.string_digest-id.result ≡ blake2b (string_content c.args.target.now) = cc (c.string_digest-id.ensures, c.as_bytes.ensures.value) in
    let p = err_from_is_err_and c.from_residual.result c.from_residual.ensures.1 in
    rw (p.1, p.2) (symlink_failure g.L.ObjectLog.contains c.args.self.now.log g.L.ObjectLog.may_fail c.args.self.now.backend c.args.target.now c.string_digest-id.result c.in_err-is_stored.field-0.0 is c.in_err-is_stored.ensures.error)
