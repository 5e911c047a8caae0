use Rattle.std.proofs.Common.{◌+◌, ◌*◌, IsTrue}
use Rattle.std.specs.FinMap.{is_sorted}
use Rattle.jj_paths.specs.Paths.{name_cmp}
use Rattle.jj_paths.specs.Tree.{branches_of, branch_count}
use Rattle.jj_paths.proofs.DropMeasure.{way_count}
use Rattle.jj_paths.proofs.repo_path_tree.RepoPathNode.drop.Given as goal

-- both lists are sorted by name
abbrev pub invariant-loop-name : goal.invariant-loop-name
invariant-loop-name g l = record {
  current : IsTrue (is_sorted name_cmp l.current.items);
  above : IsTrue (is_sorted name_cmp l.above.items);
}

-- each node is entered once on the way down, and left once on the way up
abbrev pub decreases-loop-name : goal.decreases-loop-name
decreases-loop-name g l = 2 * branch_count (branches_of l.current.items) + way_count (branches_of l.above.items)
