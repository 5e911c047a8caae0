use Rattle.jj_fast_import.proofs.Continued.{malformed_continued}
use Rattle.jj_fast_import.proofs.laws.malformed_lines_stay.Goals as goal

pub returns : goal.returns
returns c = malformed_continued
