use Rattle.std.proofs.Common.{length}
use Rattle.jj_paths.specs.Names.{path_of}
use Rattle.jj_paths.proofs.repo_path_tree.RepoPathTree.+swap_value.Given as goal

abbrev pub decreases-swap_value : goal.decreases-swap_value
decreases-swap_value g l = length (path_of l.path)
