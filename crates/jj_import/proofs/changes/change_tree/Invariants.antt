use Rattle.std.proofs.Common.{◌≡◌, length, map}
use Rattle.jj_backend.specs.Objects.{Objects}
use Rattle.jj_fast_import.specs.Values.{change_value}
use Rattle.jj_tree_builder.specs.Changes.{Files}
use Rattle.jj_import.specs.AppliedChanges.{AreApplied, files_of, table_of}
use Rattle.jj_import.specs.Stored.{IsExtended}
use Rattle.jj_import.proofs.changes.change_tree.Given as goal

abbrev pub decreases-loop-change : goal.decreases-loop-change
decreases-loop-change g l = length l.rest

abbrev pub invariant-loop-change : goal.invariant-loop-change
invariant-loop-change g l = record {
  files : (objects : Objects) → IsExtended (g.B.Backend.objects l.backend) objects → (end : Files)
      → AreApplied objects (table_of l.marks) (map change_value l.rest) (files_of objects.trees l.builder) end
      → AreApplied objects (table_of l.marks) (map change_value l.changes) (files_of objects.trees l.initial.builder) end;
  objects : IsExtended (g.B.Backend.objects l.initial.backend) (g.B.Backend.objects l.backend);
  same : g.B.Backend.fixed l.backend ≡ g.B.Backend.fixed l.initial.backend;
}
