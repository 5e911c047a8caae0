use Rattle.std.proofs.Common.{◌≡◌, Some, length}
use Rattle.jj_paths.specs.Names.{path_of}
use Rattle.jj_backend.specs.declared.backend.tree_value.TreeValue.TheVariants.{Tree}
use Rattle.jj_trees.specs.WrittenTrees.{stored_at}
use Rattle.jj_tree_builder.proofs.path_value.path_value.Given as goal

abbrev pub invariant-loop-name : goal.invariant-loop-name
invariant-loop-name g l = stored_at (g.B.Backend.objects l.backend).trees l.value (path_of l.rest) ≡ stored_at (g.B.Backend.objects l.backend).trees (Some (Tree l.root)) (path_of l.path)

abbrev pub decreases-loop-name : goal.decreases-loop-name
decreases-loop-name g l = length (path_of l.rest)
