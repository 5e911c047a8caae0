-- The targets over the parents so far.
use Rattle.std.proofs.Common.{take}
use Rattle.jj_log.specs.Numbers.{parents_of}
use Rattle.jj_log.specs.Targets.{HasVia}
use Rattle.jj_log.proofs.targets.targets_of.Given as goal

abbrev pub invariant-loop-parent : goal.invariant-loop-parent
invariant-loop-parent l = HasVia l.commits (take l.parent-index (parents_of l.commits l.number)) l.found
