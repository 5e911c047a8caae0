use Rattle.jj_ids.proofs.SymbolWrites.{formatter_writes}
use Rattle.jj_ids.proofs.ref_name.symbols.display_symbol_at.Goals as goal

pub returns : goal.returns
returns g c = formatter_writes g.W.Write.write_str_gives _ _ _ _ c.write_symbol_at.ensures
