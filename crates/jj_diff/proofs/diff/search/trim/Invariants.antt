use Rattle.std.proofs.Common.{◌-◌}
use Rattle.jj_diff.proofs.diff.search.trim.Given as goal

abbrev pub decreases-loop-span : goal.decreases-loop-span
decreases-loop-span l = l.span.left_end - l.span.left

abbrev pub decreases-loop-span-2 : goal.decreases-loop-span-2
decreases-loop-span-2 l = l.span.left_end - l.span.left
