use Rattle.std.proofs.Common.{◌-◌, get_or}
use Rattle.jj_diff.proofs.diff.progress.Progress.+advance.Given as goal

abbrev pub decreases-advance : goal.decreases-advance
decreases-advance g l = get_or l.starts.now 0 0 - get_or l.self.now.at.items 0 0
