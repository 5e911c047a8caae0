use Rattle.std.proofs.Common.{ap, ◌∙◌}
use Rattle.jj_ids.specs.SymbolDisplay.{remote_symbol_display}
use Rattle.jj_ids.proofs.SymbolInjectivity.{remote-injective}
use Rattle.jj_ids.proofs.ref_name.symbols.remote_symbol_display_is_injective.Goals as goal

pub returns-clause-injective : goal.returns-clause-injective
returns-clause-injective c = λ name remote other other_remote e. remote-injective name remote other other_remote e

pub returns-clause-same : goal.returns-clause-same
returns-clause-same c = λ name remote other other_remote e f. ap (λ n. remote_symbol_display n remote) e ∙ ap (remote_symbol_display other) f
