use Rattle.jj_content.proofs.SymbolEscapes.{escaped_step, escaped_end}
use Rattle.jj_content.proofs.symbol_util.escape_string_to_buf.Goals as goal

pub loop-c-preserved : goal.loop-c-preserved
loop-c-preserved c = escaped_step _ _ _ _ _ _ c.in_ok-push_escaped.ensures c.in-Some.ensures.steps.0 c.loop-c.invariant

pub returns : goal.returns
returns c = escaped_end _ _ _ c.in-None.ensures.steps.0.0 c.loop-c.invariant
