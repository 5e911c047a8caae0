use Rattle.jj_filesets.proofs.Unique.{spelling_is_unique}
use Rattle.jj_filesets.proofs.laws.spelling_is_unique.Goals as goal

pub returns : goal.returns
returns c = spelling_is_unique
