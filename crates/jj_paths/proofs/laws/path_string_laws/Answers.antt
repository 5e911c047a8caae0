use Rattle.jj_paths.proofs.PathStrings.{path_string-components}
use Rattle.jj_paths.proofs.PathLaws.{paths_give_back}
use Rattle.jj_paths.proofs.laws.path_string_laws.Goals as goal

pub returns-clause-texts : goal.returns-clause-texts
returns-clause-texts c = path_string-components

pub returns-clause-paths : goal.returns-clause-paths
returns-clause-paths c = paths_give_back
