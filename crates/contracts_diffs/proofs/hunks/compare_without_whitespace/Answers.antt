use Rattle.jj_diff.specs.Whitespace.{without_whitespace}
use Rattle.contracts_diffs.proofs.Ends.{shares_no_line_by}
use Rattle.contracts_diffs.proofs.hunks.compare_without_whitespace.Goals as goal

pub returns-clause-lines : goal.returns-clause-lines
returns-clause-lines c =
    shares_no_line_by without_whitespace c.in_ok-compared.compared.hunks.items c.in_ok-compared.ensures.trimmed
