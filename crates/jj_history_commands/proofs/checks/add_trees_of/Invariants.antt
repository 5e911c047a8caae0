-- The trees so far are found.
use Rattle.std.proofs.Common.{take, Contains}
use Rattle.std.specs.Prelude.{All}
use Rattle.jj_history_commands.specs.FoundObjects.{AreAmong, IsPrefix}
use Rattle.jj_history_commands.proofs.checks.add_trees_of.Given as goal

abbrev pub invariant-loop-id : goal.invariant-loop-id
invariant-loop-id l = record {
  known : AreAmong l.known.keys l.trees.items;
  prefix : IsPrefix l.initial.trees.items l.trees.items;
  found : All (Contains l.trees.items) (take l.id-index l.ids);
}
