-- The ids so far.
use Rattle.std.proofs.Common.{◌≡◌, map, take}
use Rattle.jj_store_walks.specs.ReadCommits.{id_of}
use Rattle.jj_store_walks.proofs.ids.ids_of.Given as goal

abbrev pub invariant-loop-commit : goal.invariant-loop-commit
invariant-loop-commit l = l.ids.items ≡ map id_of (take l.commit-index l.commits)
