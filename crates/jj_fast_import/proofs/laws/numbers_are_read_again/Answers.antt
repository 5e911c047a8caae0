use Rattle.jj_fast_import.proofs.Again.{number-decimal}
use Rattle.jj_fast_import.proofs.laws.numbers_are_read_again.Goals as goal

pub returns : goal.returns
returns c = number-decimal
