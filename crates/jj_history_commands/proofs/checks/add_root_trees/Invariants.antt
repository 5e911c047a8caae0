-- The trees of the commits so far are found.
use Rattle.std.proofs.Common.{take}
use Rattle.jj_history_commands.specs.FoundObjects.{AreAmong, HasTrees}
use Rattle.jj_history_commands.proofs.checks.add_root_trees.Given as goal

abbrev pub invariant-loop-read : goal.invariant-loop-read
invariant-loop-read l = record {
  known : AreAmong l.known.keys l.trees.items;
  found : HasTrees l.trees.items (take l.read-index l.commits);
}
