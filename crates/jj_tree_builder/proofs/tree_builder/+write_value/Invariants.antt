use Rattle.std.proofs.Common.{◌≡◌}
use Rattle.std.specs.BTreeMap.{get, btree_map_len}
use Rattle.jj_paths.specs.Paths.{Name, Path, name_cmp}
use Rattle.jj_backend.specs.Objects.{ById}
use Rattle.jj_backend.specs.Trees.{Entries}
use Rattle.jj_trees.specs.WrittenTrees.{AddsTrees}
use Rattle.jj_tree_builder.specs.Changes.{IsGrown, changed, files_at}
use Rattle.jj_tree_builder.specs.PendingChanges.{changes_of}
use Rattle.jj_tree_builder.proofs.tree_builder.+write_value.Given as goal

abbrev pub decreases-write_value : goal.decreases-write_value
decreases-write_value g l = l.levels

abbrev pub decreases-loop-name : goal.decreases-loop-name
decreases-loop-name g l = btree_map_len l.below

abbrev pub invariant-loop-name : goal.invariant-loop-name
invariant-loop-name g l = record {
  files : (trees : ById Entries) → IsGrown (g.B.Backend.objects l.backend).trees trees → (name : Name) (place : Path)
      → changed trees (changes_of l.below name) (files_at trees (get name_cmp l.entries name)) place
      ≡ changed trees (changes_of l.initial.below name) (files_at trees (get name_cmp l.initial.entries name)) place;
  objects : AddsTrees (g.B.Backend.objects l.initial.backend) (g.B.Backend.objects l.backend);
  same : g.B.Backend.fixed l.backend ≡ g.B.Backend.fixed l.initial.backend;
}
