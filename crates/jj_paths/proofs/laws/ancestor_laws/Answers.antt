use Rattle.jj_paths.proofs.PathLaws.{has_ancestors}
use Rattle.jj_paths.proofs.laws.ancestor_laws.Goals as goal

pub returns-clause-ancestors : goal.returns-clause-ancestors
returns-clause-ancestors g c = has_ancestors g.row.V.Denot
