-- The lists so far.
use Rattle.std.proofs.Common.{◌≡◌, [], map, take}
use Rattle.jj_dag.specs.PackedLists.{lists_of, open_list_of}
use Rattle.jj_log.proofs.ordering.graph_of_parents.Given as goal

abbrev pub invariant-loop-commit : goal.invariant-loop-commit
invariant-loop-commit l = (lists_of l.lists ≡ map (λ commit. commit.parents.items) (take l.commit-index l.commits)) × (open_list_of l.lists ≡ [])
