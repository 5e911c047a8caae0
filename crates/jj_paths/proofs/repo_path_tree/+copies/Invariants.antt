use Rattle.std.proofs.Common.{take}
use Rattle.jj_paths.specs.Tree.{branches_of, AreClones}
use Rattle.jj_paths.proofs.repo_path_tree.+copies.Given as goal

-- the children so far are cloned
abbrev pub invariant-RepoPathNode::clone-loop-name : goal.invariant-RepoPathNode::clone-loop-name
invariant-RepoPathNode::clone-loop-name g l = AreClones g.V.Clone.is_clone (branches_of (take l.name-index l.name-items)) (branches_of l.entries.items)
