-- A list of commits that may lack parents of its commits, and the errors at those.
-- Cited by contracts of public items: IsGapIn, whole_graph.
use Rattle.std.specs.Prelude.{◌≡◌, ◌&&◌, ℕ, Bool, true, false, cond, List, [], ◌∷◌, None, Some, is_some}
use Rattle.std.specs.String.{string_bytes, string_eq}
use Rattle.jj_walks_tests.specs.declared.commits.Commit.{Commit}
use Rattle.jj_walks_tests.specs.declared.commits.Gap.{Gap}
use Rattle.jj_walks_tests.specs.declared.commits.Gap.TheVariants.{Memory, Text}
use Rattle.jj_dag.specs.Graph.{Graph}
use Rattle.jj_walks_tests.specs.Commits.{ids_of, commit_with, parents_in, has_commit}

-- the list has a commit of each of these ids
abbrev pub has_ids : List Commit → List ℕ → Bool
has_ids commits [] = true
has_ids commits (id ∷ ids) = is_some (commit_with commits id) && has_ids commits ids

-- the graph of the commits whose parents are all in the list; any other has no neighbor
abbrev pub whole_graph : List Commit → Graph
whole_graph commits id = elim (commit_with commits id) [
  | None ↦ []
  | Some c ↦ cond (has_ids commits c.parents.items) (ids_of (parents_in commits c))
      []
]

-- the error's description, unless out of memory, is that of the commit
abbrev pub describes_gap : Commit → Gap → Bool
describes_gap c Memory = true
describes_gap c (Text text) = string_eq text c.text

abbrev pub HasTextOf : Commit → Gap → Type 0
HasTextOf c Memory = Unit {0}
HasTextOf c (Text text) = string_bytes text ≡ string_bytes c.text

-- the error is that of a commit of the list which names a parent that the list lacks
abbrev pub IsGapIn : List Commit → Gap → Type 0
IsGapIn commits gap = (c : Commit) × (has_commit commits c ≡ true)
    × (has_ids commits c.parents.items ≡ false) × HasTextOf c gap
