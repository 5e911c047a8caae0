use Rattle.std.proofs.Common.{refl}
use Rattle.jj_program.proofs.laws.commands_have_these_lines.Goals as goal

pub returns : goal.returns
returns c = record { walk = refl; merge = refl; graph = refl; hash = refl }
