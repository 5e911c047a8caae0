use Rattle.std.proofs.Common.{ap, Some}
use Rattle.jj_mirror.proofs.mirrored.MirroredBackend.write_commit.Goals as goal

pub returns-in_err-commit-in-Some-clause-not_called :
    goal.returns-in_err-commit-in-Some-clause-not_called
returns-in_err-commit-in-Some-clause-not_called g c =
    rw c.in-Some.is (λ rootless. ap Some (c.sign_commit.ensures.not_called rootless))
