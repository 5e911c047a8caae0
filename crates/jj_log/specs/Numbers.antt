-- Numbered commits: the graph of their parents, and those that are elided or visible.
-- Cited by contracts of public items: is_elided, is_visible, parents_of.
use Rattle.std.specs.Prelude.{ℕ, Bool, false, not, List, [], slice_get}
use Rattle.std.specs.Option.{option_map_or}
use Rattle.jj_dag.specs.Graph.{Graph}
use Rattle.jj_log.specs.declared.commits.NumberedCommit.{NumberedCommit}

-- the parents of each number; a missing commit has none
abbrev pub parents_of : List NumberedCommit → Graph
parents_of commits n = option_map_or (λ c. c.parents.items) (slice_get commits n) []

-- whether the number is that of an elided commit
abbrev pub is_elided : List NumberedCommit → ℕ → Bool
is_elided commits n = option_map_or (λ c. c.is_elided) (slice_get commits n) false

-- whether the number is that of a commit that is not elided
abbrev pub is_visible : List NumberedCommit → ℕ → Bool
is_visible commits n = option_map_or (λ c. not c.is_elided) (slice_get commits n) false
