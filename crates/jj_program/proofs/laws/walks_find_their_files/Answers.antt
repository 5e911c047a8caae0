use Rattle.jj_program.proofs.FoundFiles.{finds_its_files}
use Rattle.jj_program.proofs.laws.walks_find_their_files.Goals as goal

pub returns : goal.returns
returns c = finds_its_files
