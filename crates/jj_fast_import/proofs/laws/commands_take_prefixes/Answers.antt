use Rattle.jj_fast_import.proofs.Tails.{command_takes}
use Rattle.jj_fast_import.proofs.laws.commands_take_prefixes.Goals as goal

pub returns : goal.returns
returns c = command_takes
