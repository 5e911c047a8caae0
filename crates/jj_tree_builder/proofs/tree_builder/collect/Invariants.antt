use Rattle.std.proofs.Common.{◌≡◌, ◌++◌}
use Rattle.jj_paths.specs.Paths.{Path}
use Rattle.jj_backend.specs.Objects.{ById}
use Rattle.jj_backend.specs.Trees.{Entries}
use Rattle.jj_tree_builder.specs.Changes.{changed, files_at}
use Rattle.jj_tree_builder.specs.PendingChanges.{IsOpen, pending_files}
use Rattle.jj_tree_builder.proofs.tree_builder.collect.Given as goal

abbrev pub invariant-loop-path : goal.invariant-loop-path
invariant-loop-path l = record {
  files : (trees : ById Entries) (place : Path) → pending_files trees l.pending place ≡ changed trees l.yielded (files_at trees l.initial.pending.value) place;
  open_below : IsOpen l.pending;
}
