use Rattle.jj_content_merges.proofs.SideLaws.{joined_side, unresolved_side}
use Rattle.jj_content_merges.proofs.laws.side_laws.Goals as goal

pub returns-clause-joined : goal.returns-clause-joined
returns-clause-joined c = joined_side

pub returns-clause-unresolved : goal.returns-clause-unresolved
returns-clause-unresolved c = unresolved_side
