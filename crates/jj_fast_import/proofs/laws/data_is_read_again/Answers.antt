use Rattle.jj_fast_import.proofs.Again.{data_again}
use Rattle.jj_fast_import.proofs.laws.data_is_read_again.Goals as goal

pub returns : goal.returns
returns c = data_again
