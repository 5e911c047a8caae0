use Rattle.std.proofs.Common.{◌≡◌, length}
use Rattle.jj_paths.specs.Paths.{after_common}
use Rattle.jj_paths.specs.Names.{path_of}
use Rattle.jj_paths.proofs.repo_path.RepoPath.after_common.Given as goal

-- the common prefix of the remaining paths leaves the rest of the whole
abbrev pub invariant-loop-name : goal.invariant-loop-name
invariant-loop-name l = after_common (path_of l.rest) (path_of l.theirs) ≡ after_common (path_of l.fn.self) (path_of l.fn.other)

abbrev pub decreases-loop-name : goal.decreases-loop-name
decreases-loop-name l = length (path_of l.rest)
