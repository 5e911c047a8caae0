use Rattle.jj_program.proofs.UniqueResults.{results_unique}
use Rattle.jj_program.proofs.laws.results_are_unique.Goals as goal

pub returns : goal.returns
returns c = results_unique
