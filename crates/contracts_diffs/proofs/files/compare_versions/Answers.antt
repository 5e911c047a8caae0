use Rattle.contracts_diffs.proofs.Ends.{start_matches}
use Rattle.contracts_diffs.proofs.files.compare_versions.Goals as goal

pub returns-clause-before : goal.returns-clause-before
returns-clause-before c = λ lines xs ys ends el er.
    start_matches c.args.left.now c.args.right.now c.in_ok-hunks.hunks.items c.in_ok-hunks.ensures.ends lines xs ys ends el er
