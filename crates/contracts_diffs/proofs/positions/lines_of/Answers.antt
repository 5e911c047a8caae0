use Rattle.std.proofs.Common.{All, subst, sym}
use Rattle.contracts_diffs.specs.Ranges.{IsLineAt}
use Rattle.contracts_diffs.proofs.TokenRanges.{lines_are}
use Rattle.contracts_diffs.proofs.positions.lines_of.Goals as goal

pub returns-clause-lines : goal.returns-clause-lines
returns-clause-lines c = subst (All (IsLineAt c.args.text.now)) (sym c.in_ok-ranges.ensures) (lines_are c.args.text.now)
