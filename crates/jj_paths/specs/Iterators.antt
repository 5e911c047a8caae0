-- The items that the iterators over components and over ancestors have not yet yielded.
-- Cited by contracts of public items: remaining_ancestors, remaining_components.
use Rattle.std.specs.Prelude.{List, [], Option, Some, None}
use Rattle.jj_paths.specs.Paths.{Path, ancestors}
use Rattle.jj_paths.specs.Names.{path_of}
use Rattle.jj_paths.specs.declared.repo_path.RepoPath.{RepoPath}
use Rattle.jj_paths.specs.declared.repo_path.iter.RepoPathComponentsIter.{RepoPathComponentsIter}
use Rattle.jj_paths.specs.declared.repo_path.iter.RepoPathAncestors.{RepoPathAncestors}

-- the components not yet yielded
abbrev pub remaining_components : RepoPathComponentsIter → Path
remaining_components left = path_of left.path

-- the path and its ancestors; none of no path
abbrev pub ancestors_from : Option RepoPath → List Path
ancestors_from None = []
ancestors_from (Some path) = ancestors (path_of path)

-- the ancestors not yet yielded
abbrev pub remaining_ancestors : RepoPathAncestors → List Path
remaining_ancestors left = ancestors_from left.next
