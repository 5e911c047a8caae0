use Rattle.jj_paths.proofs.PathLaws.{last_name_laws}
use Rattle.jj_paths.proofs.laws.last_name_laws.Goals as goal

pub returns : goal.returns
returns c = last_name_laws
