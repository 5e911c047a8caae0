use Rattle.std.proofs.Common.{◌≡◌, take}
use Rattle.std.specs.List.{AllZip}
use Rattle.jj_file_merges.specs.MergedTrees.{AddsFiles, IsOutcome}
use Rattle.jj_file_merges.proofs.trees.merge_conflicts.Given as goal

abbrev pub invariant-loop-path : goal.invariant-loop-path
invariant-loop-path g l = record {
  outcomes : AllZip (IsOutcome (g.B.Backend.objects l.backend).files l.options.hunk_level l.options.same_change l.style) (take l.path-index l.conflicts) l.outcomes.items;
  objects : AddsFiles (g.B.Backend.objects l.initial.backend) (g.B.Backend.objects l.backend);
  fixed : g.B.Backend.fixed l.backend ≡ g.B.Backend.fixed l.initial.backend;
}
