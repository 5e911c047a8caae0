use Rattle.std.proofs.Common.{drop, ◌≡◌, length}
use Rattle.jj_paths.specs.Tree.{branches_of, children}
use Rattle.jj_paths.specs.Equal.{branches_eq, tree_eq}
use Rattle.jj_paths.proofs.repo_path_tree.+equals.Given as goal

-- the children so far are equal, so the rest determine the result
abbrev pub invariant-RepoPathNodePartialEq::eq-loop-i : goal.invariant-RepoPathNodePartialEq::eq-loop-i
invariant-RepoPathNodePartialEq::eq-loop-i g l = record {
  mine : l.mine ≡ children l.self.branches;
  theirs : l.theirs ≡ children l.other.branches;
  as_many : length l.mine ≡ length l.theirs;
  decided : tree_eq g.V.PartialEq.eq l.self l.other ≡ branches_eq g.V.PartialEq.eq (branches_of (drop l.i l.mine)) (branches_of (drop l.i l.theirs));
}
