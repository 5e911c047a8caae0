use Rattle.std.proofs.Common.{ap}
use Rattle.jj_diff.specs.Inputs.{bytes_of}
use Rattle.jj_diff.proofs.Rows.{whole_one}
use Rattle.jj_diff.proofs.diff.hunks.whole_hunk.Goals as goal

pub returns-clause-diff : goal.returns-clause-diff
returns-clause-diff c = λ t law.
    rw (c.in_ok-push.ensures.items, c.new-hunks.ensures.items)
    (whole_one (λ text. text) t law (bytes_of c.args.inputs.now) _ (ap bytes_of c.in_ok-row.ensures.items) c.requires.nonempty c.requires.equal)
