use Rattle.std.proofs.Common.{ap, ◌∙◌}
use Rattle.std.specs.Str.Iter.{chars_rest}
use Rattle.jj_content.proofs.QuotedWrites.{quote_start, quote_next, quote_end}
use Rattle.jj_content.proofs.symbol_util.write_quoted.Goals as goal

pub loop-c-init : goal.loop-c-init
loop-c-init g c =
    quote_start _ _ _ _ _ c.in_ok-write_char.ensures.writes (ap chars_rest c.into_iter-c-iterator.ensures.into_iter_gives ∙ c.chars-c-items.ensures.rest)

pub loop-c-preserved : goal.loop-c-preserved
loop-c-preserved g c = quote_next _ _ _ _ _ _ _ _ c.loop-c.invariant c.in_ok-write_escaped.ensures c.in-Some.ensures.steps.0

pub returns : goal.returns
returns g c = quote_end _ _ _ _ _ _ c.loop-c.invariant c.in-None.ensures.steps.0.0 c.in_ok-write_char-2.ensures.writes
