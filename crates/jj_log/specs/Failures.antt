-- Errors of lists of commits.
-- Cited by contracts of public items: IsLayoutError, IsOrderError, IsRowsError.
use Rattle.std.specs.Prelude.{ℕ, List}
use Rattle.jj_dag.specs.Graph.{StrictlyReaches}
use Rattle.jj_log.specs.Columns.{IsTooWide}
use Rattle.jj_log.specs.Logs.{IsGroupedLog, LogNode}
use Rattle.jj_log.specs.Numbers.{parents_of}
use Rattle.jj_log.specs.declared.commits.NumberedCommit.{NumberedCommit}
use Rattle.jj_log.specs.declared.fault.LogError.{LogError}
use Rattle.jj_log.specs.declared.fault.LogError.TheVariants.{Memory, RepeatedName, Cycle, TooWide}

-- the error of numbered commits: a cycle has the commit, or memory ran out
abbrev pub IsOrderError : List NumberedCommit → LogError → Type 0
IsOrderError commits Memory = Unit {0}
IsOrderError commits (RepeatedName n) = ⊥
IsOrderError commits (Cycle n) = StrictlyReaches (parents_of commits) n n
IsOrderError commits (TooWide n) = ⊥

-- the error of nodes that are laid out: a row needs more columns than `most`, or memory ran out
abbrev pub IsLayoutError : (most : ℕ) → List LogNode → LogError → Type 0
IsLayoutError most nodes Memory = Unit {0}
IsLayoutError most nodes (TooWide n) = IsTooWide most nodes n
IsLayoutError most nodes error = ⊥

-- the error of the rows of numbered commits: that of their order, or a row of their log, with
-- branches together, needs more columns than `most`
abbrev pub IsRowsError : (most : ℕ) → List NumberedCommit → LogError → Type 0
IsRowsError most commits (TooWide n) = (nodes : List LogNode) × IsGroupedLog commits nodes
    × IsTooWide most nodes n
IsRowsError most commits error = IsOrderError commits error
