use Rattle.std.proofs.Common.{◌≡◌, map, take}
use Rattle.jj_walks_tests.specs.Branches.{parent_edge}
use Rattle.jj_walks_tests.proofs.branches.parent_edges.Given as goal

abbrev pub invariant-loop-parent : goal.invariant-loop-parent
invariant-loop-parent l = l.edges.items ≡ map (parent_edge l.commits) (take l.parent-index l.parent-items)
