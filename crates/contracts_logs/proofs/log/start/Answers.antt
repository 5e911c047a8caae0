use Rattle.std.proofs.Common.{refl}
use Rattle.jj_log.specs.CommandLines.{no_words}
use Rattle.contracts_logs.specs.Defaults.{default_options}
use Rattle.contracts_logs.proofs.log.start.Goals as goal

pub returns : goal.returns
returns g c = c.start.ensures.run default_options (record { line = no_words; parsed = refl; draws = refl; most = refl; style = refl; nul = refl })
