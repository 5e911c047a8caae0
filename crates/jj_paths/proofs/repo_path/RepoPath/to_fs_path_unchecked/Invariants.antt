-- Appending the remaining components to `path` yields the whole path.
use Rattle.std.proofs.Common.{◌≡◌}
use Rattle.std.specs.Path.{path_buf_bytes}
use Rattle.jj_paths.specs.Names.{path_of}
use Rattle.jj_files.specs.PathJoining.{join_all}
use Rattle.jj_paths.specs.Iterators.{remaining_components}
use Rattle.jj_paths.proofs.repo_path.RepoPath.to_fs_path_unchecked.Given as goal

abbrev pub invariant-loop-name : goal.invariant-loop-name
invariant-loop-name l = join_all (path_buf_bytes l.path) (remaining_components l.name-iterator) ≡ join_all l.base (path_of l.self)
