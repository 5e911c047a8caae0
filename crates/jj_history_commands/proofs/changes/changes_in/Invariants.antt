-- The changes so far are those of the set among the visited ones.
use Rattle.std.specs.Option.{option_copied}
use Rattle.jj_filesets.specs.Selection.{IsSelected}
use Rattle.jj_history_commands.specs.FileSets.{IsInSet}
use Rattle.jj_history_commands.proofs.changes.changes_in.Given as goal

abbrev pub invariant-loop-change : goal.invariant-loop-change
invariant-loop-change g l = IsSelected (λ change. IsInSet (option_copied l.files) change.path) l.yielded l.changes.items
