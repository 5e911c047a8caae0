-- The trees so far are whole, and those that they lead to are found.
use Rattle.std.proofs.Common.{ℕ, List, ◌<◌, get_or, length}
use Rattle.jj_history_commands.specs.FoundObjects.{AreAmong, AreStoredFiles, IsPrefix, IsWhole}
use Rattle.jj_history_commands.proofs.checks.check_trees.Given as goal

abbrev pub invariant-loop-index : goal.invariant-loop-index
invariant-loop-index g l = record {
  known : AreAmong l.known.keys l.trees.items;
  read : AreStoredFiles (g.B.Backend.objects l.store) l.read.keys;
  prefix : IsPrefix l.initial.trees.items l.trees.items;
  whole : (k : ℕ) (d : List ℕ) → k < l.index → k < length l.trees.items → IsWhole (g.B.Backend.objects l.store) l.trees.items (get_or l.trees.items k d);
}
