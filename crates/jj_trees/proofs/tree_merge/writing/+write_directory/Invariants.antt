use Rattle.std.proofs.Common.{take}
use Rattle.jj_paths.specs.Names.{path_of}
use Rattle.jj_paths.specs.Tree.{branches_of, children}
use Rattle.jj_trees.specs.WrittenTrees.{AddsTrees}
use Rattle.jj_trees.specs.PathTries.{AreStored}
use Rattle.jj_trees.proofs.NodeWrites.{WritesChildren}
use Rattle.jj_trees.proofs.tree_merge.writing.+write_directory.Given as goal

abbrev pub decreases-write_directory : goal.decreases-write_directory
decreases-write_directory g l = l.levels

abbrev pub invariant-loop-name : goal.invariant-loop-name
invariant-loop-name g l = record {
  stored : AreStored (g.B.Backend.objects l.backend).trees (branches_of (take l.name-index (children l.node.branches))) l.entries.items;
  added : AddsTrees (g.B.Backend.objects l.initial.backend) (g.B.Backend.objects l.backend);
  writes : WritesChildren g.B.Backend.may_write (g.B.Backend.objects l.backend).trees (path_of l.dir) l.node (take l.name-index (children l.node.branches)) l.entries.items l.initial.backend l.backend;
}
