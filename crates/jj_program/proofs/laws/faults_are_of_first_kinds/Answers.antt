use Rattle.jj_program.proofs.LineFaults.{answers_first_fault}
use Rattle.jj_program.proofs.laws.faults_are_of_first_kinds.Goals as goal

pub returns : goal.returns
returns c = answers_first_fault
