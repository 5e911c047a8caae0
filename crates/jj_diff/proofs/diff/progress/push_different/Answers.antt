use Rattle.std.proofs.Common.{refl}
use Rattle.jj_diff.proofs.Rows.{prefix_different}
use Rattle.jj_diff.proofs.diff.progress.push_different.Goals as goal

pub returns-clause-prefix : goal.returns-clause-prefix
returns-clause-prefix g c =
    rw c.in_ok-push.ensures.items (prefix_different g.C.CompareBytes.canonical _ _ _ _ _ _ refl c.requires.prefix c.requires.ranges c.requires.cuts c.requires.row c.requires.nonempty c.requires.last)
