-- The entries so far are there.
use Rattle.std.proofs.Common.{◌≡◌, ◌++◌, map, Some}
use Rattle.std.specs.Prelude.{All}
use Rattle.jj_backend.specs.Trees.{entry_of, entries_left}
use Rattle.jj_history_commands.specs.FoundObjects.{AreAmong, AreStoredFiles, IsPrefix, IsThere}
use Rattle.jj_history_commands.proofs.checks.check_tree.Given as goal

abbrev pub invariant-loop-entry : goal.invariant-loop-entry
invariant-loop-entry g l = record {
  known : AreAmong l.known.keys l.trees.items;
  read : AreStoredFiles (g.B.Backend.objects l.store) l.read.keys;
  prefix : IsPrefix l.initial.trees.items l.trees.items;
  whole : (g.B.Backend.objects l.store).trees l.id ≡ Some (map entry_of l.yielded ++ entries_left l.entry-iterator);
  there : All (λ entry. IsThere (g.B.Backend.objects l.store) l.trees.items entry.1) (map entry_of l.yielded);
}
