use Rattle.jj_fast_import.proofs.Unquoting.{unquoted-quoted}
use Rattle.jj_fast_import.proofs.laws.quoted_paths_are_read_again.Goals as goal

pub returns : goal.returns
returns c = unquoted-quoted
