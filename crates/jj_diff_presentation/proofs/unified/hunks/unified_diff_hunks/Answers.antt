use Rattle.std.proofs.Common.{sym, subst}
use Rattle.jj_diff_presentation.specs.Scripts.{AreContext}
use Rattle.jj_diff_presentation.proofs.unified.hunks.unified_diff_hunks.Goals as goal

pub returns-clause-identity : goal.returns-clause-identity
returns-clause-identity c = λ e.
    c.in_ok-hunks.ensures.identity
    (subst AreContext (sym c.deref.ensures.value) (c.in_ok-lines.ensures.context e))
