use Rattle.jj_program.proofs.FirstFaults.{gives_first_fault}
use Rattle.jj_program.proofs.laws.faults_are_of_first_lines.Goals as goal

pub returns : goal.returns
returns c = gives_first_fault
