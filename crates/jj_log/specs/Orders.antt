-- Topological orders of numbered commits.
-- Cited by contracts of public items: IsCommitOrder.
use Rattle.std.specs.Prelude.{ℕ, ◌<◌, List, length, eqb}
use Rattle.std.specs.List.{Contains, IsDistinct}
use Rattle.jj_dag.specs.Graph.{Precedes, StrictlyReaches}
use Rattle.jj_log.specs.Numbers.{parents_of}
use Rattle.jj_log.specs.declared.commits.NumberedCommit.{NumberedCommit}

-- each commit once, before all numbers that it strictly reaches
pub record IsCommitOrder (commits : List NumberedCommit) (order : List ℕ) : Type 0 where
  pub all : (n : ℕ) → n < length commits → Contains order n
  pub once : IsDistinct eqb order
  pub before : (a b : ℕ) → Contains order a → StrictlyReaches (parents_of commits) a b
      → Precedes order a b
