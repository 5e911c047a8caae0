-- The targets of the last commits of the order are known.
use Rattle.std.proofs.Common.{◌≡◌, ◌-◌, drop, length}
use Rattle.std.specs.List.{Contains}
use Rattle.jj_log.specs.Targets.{KnowsTargets}
use Rattle.jj_log.proofs.targets.all_targets.Given as goal

abbrev pub invariant-loop-index : goal.invariant-loop-index
invariant-loop-index l = record {
  lists : length l.known.items ≡ length l.commits;
  done : KnowsTargets l.commits l.known.items (Contains (drop (length l.order - l.index) l.order));
}
