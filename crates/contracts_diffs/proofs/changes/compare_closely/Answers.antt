use Rattle.contracts_diffs.proofs.Ends.{shares_no_line, starts_apart}
use Rattle.contracts_diffs.proofs.changes.compare_closely.Goals as goal

pub returns-clause-starts : goal.returns-clause-starts
returns-clause-starts c = starts_apart c.in_ok-hunks.hunks.items c.in_ok-hunks.ensures.trimmed

pub returns-clause-lines : goal.returns-clause-lines
returns-clause-lines c = shares_no_line c.in_ok-hunks.hunks.items c.in_ok-hunks.ensures.trimmed
