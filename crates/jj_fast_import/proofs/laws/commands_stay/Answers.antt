use Rattle.jj_fast_import.proofs.Continued.{command_continued}
use Rattle.jj_fast_import.proofs.laws.commands_stay.Goals as goal

pub returns : goal.returns
returns c = command_continued
