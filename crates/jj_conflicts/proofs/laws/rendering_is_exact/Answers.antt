use Rattle.jj_conflicts.proofs.HunkLaws.{exact_rendering}
use Rattle.jj_conflicts.proofs.laws.rendering_is_exact.Goals as goal

pub returns : goal.returns
returns c = exact_rendering
