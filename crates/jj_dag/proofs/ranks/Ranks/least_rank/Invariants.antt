-- The least rank of the nodes so far.
use Rattle.std.proofs.Common.{ℕ, ◌<◌, ◌≤◌, get_or}
use Rattle.jj_dag.specs.Ranks.{rank_in}
use Rattle.jj_dag.proofs.ranks.Ranks.least_rank.Given as goal

abbrev pub invariant-loop-node : goal.invariant-loop-node
invariant-loop-node l = (k : ℕ) → k < l.node-index → l.least ≤ rank_in l.self (get_or l.nodes k 0)
