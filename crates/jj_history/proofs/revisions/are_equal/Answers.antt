use Rattle.jj_history.proofs.OnlyCommits.{equality}
use Rattle.jj_history.proofs.revisions.are_equal.Goals as goal

pub returns : goal.returns
returns c = equality c.eq.result c.args.left.now c.args.right.now c.eq.ensures
