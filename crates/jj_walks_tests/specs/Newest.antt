-- Topological orders of commits with the newest first.
-- Cited by contracts of public items: IsNewestFirst.
use Rattle.std.specs.Prelude.{◌≡◌, ◌≢◌, ◌<◌, ◌⊎◌, ℕ, List, ◌∷◌, ◌++◌, Some}
use Rattle.jj_dag.specs.Graph.{IsTopologicalOrder}
use Rattle.jj_walks_tests.specs.declared.commits.Commit.{Commit}
use Rattle.jj_walks_tests.specs.Commits.{commit_with, parent_graph}

-- the first commit is of an earlier time, or of the same time and has the smaller id
abbrev pub IsOlder : Commit → Commit → Type 0
IsOlder c d = (c.time < d.time) ⊎ ((c.time ≡ d.time) × (c.id < d.id))

-- the list has a commit of each id, and that of b is older
abbrev pub IsNewer : List Commit → ℕ → ℕ → Type 0
IsNewer commits a b = (c d : Commit) × (commit_with commits a ≡ Some c)
    × (commit_with commits b ≡ Some d) × IsOlder d c

-- each commit precedes its parents, and where another such list first differs from this one,
-- it has an older commit
pub record IsNewestFirst (commits : List Commit) (starts order : List ℕ) : Type 0 where
  pub child_first : IsTopologicalOrder (parent_graph commits) starts order
  pub newest : (other : List ℕ) → IsTopologicalOrder (parent_graph commits) starts other
      → (prefix later others : List ℕ) (a b : ℕ) → order ≡ prefix ++ a ∷ later
      → other ≡ prefix ++ b ∷ others → a ≢ b → IsNewer commits a b
