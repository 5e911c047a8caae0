use Rattle.std.proofs.Common.{◌∙◌}
use Rattle.contracts_diffs.proofs.TokenRanges.{others_are}
use Rattle.contracts_diffs.proofs.positions.separators_of.Goals as goal

pub returns : goal.returns
returns c = c.in_ok-ranges.ensures ∙ others_are c.args.text.now
