-- Commits that a list lacks.
-- Cited by contracts of public items: AreKnownAncestors, IsMissingFrom, lookups_left.
use Rattle.std.specs.Prelude.{◌≡◌, ◌⊎◌, ◌↔◌, ℕ, true, eqb, List, map, Option, None, Some, Result}
use Rattle.std.specs.declared.result.Result.TheVariants.{Ok, Err}
use Rattle.std.specs.List.{Contains, IsDistinct}
use denote.Ref.{Bor}
use Rattle.jj_dag.specs.FallibleGraphs.{ok_items}
use Rattle.jj_dag.specs.Graph.{ReachedFrom}
use Rattle.jj_walks_tests.specs.declared.commits.Commit.{Commit}
use Rattle.jj_walks_tests.specs.declared.lookups.Lookups.{Lookups}
use Rattle.jj_walks_tests.specs.Commits.{commit_with, has_commit, known_ids, parent_graph}

-- the commit that was found, or the id
abbrev pub or_missing : ℕ → Option Commit → Result Commit ℕ
or_missing id None = Err id
or_missing id (Some c) = Ok c

-- the commit with this id, or the id
abbrev pub looked_up : List Commit → ℕ → Result Commit ℕ
looked_up commits id = or_missing id (commit_with commits id)

abbrev pub lookups_left : Lookups → List (Result Commit ℕ)
lookups_left s = map (looked_up s.commits.now) s.ids.now

-- the list lacks this commit, which is one of the ids or a parent of a commit that they reach
pub record IsMissingFrom (commits : List Commit) (ids : List ℕ) (id : ℕ) : Type 0 where
  pub missing : commit_with commits id ≡ None
  pub named : Contains ids id ⊎ ((c : Commit) × (has_commit commits c ≡ true)
      × ReachedFrom (parent_graph commits) (known_ids commits ids) c.id
      × Contains c.parents.items id)

-- the ids of the commits among the items
abbrev pub found_ids : List (Result (Bor Commit) ℕ) → List ℕ
found_ids items = map (λ c. c.now.id) (ok_items items)

-- The commits found are exactly those that the list has of the ids and their ancestors, each once.
-- The errors are exactly the missing ids: without one, these are all ancestors.
pub record AreKnownAncestors (commits : List Commit) (ids : List ℕ)
    (found : List (Result (Bor Commit) ℕ)) : Type 0 where
  pub exactly : (id : ℕ) → Contains (found_ids found) id
      ↔ ReachedFrom (parent_graph commits) (known_ids commits ids) id
  pub once : IsDistinct eqb (found_ids found)
  pub errors : (id : ℕ) → Contains found (Err id) ↔ IsMissingFrom commits ids id
