use Rattle.std.proofs.Common.{rules}
use Rattle.jj_content.proofs.SymbolEscapes.{escaped_plain}
use Rattle.jj_content.proofs.symbol_util.push_escaped.Goals as goal

pub returns-in-None-2 : goal.returns-in-None-2
returns-in-None-2 c = rw (escaped_plain c.args.c c.in-None.ensures c.if-is_ascii_control.ensures.value) (search rules)
