-- A list of commits, and the graph of their parents.
-- Cited by contracts of public items: IsOnCycle, IsParentsFirst, commit_with, has_commit, ids_of,
-- known_ids, parent_graph.
use Rattle.std.specs.Prelude.{◌≡◌, ◌==◌, ◌&&◌, ℕ, Bool, true, false, cond, List, [], ◌∷◌, map, eqb, Option, None, Some}
use Rattle.std.specs.List.{Contains, IsDistinct, filter_map}
use Rattle.std.specs.Cmp.Lexicographic.{pointwise}
use Rattle.std.specs.String.{string_eq}
use Rattle.jj_walks_tests.specs.declared.commits.Commit.{Commit}
use Rattle.jj_dag.specs.Graph.{Graph, Precedes, OnCycleFrom}

abbrev pub ids_of : List Commit → List ℕ
ids_of commits = map (λ c. c.id) commits

-- the first commit of the list that has this id
abbrev pub commit_with : List Commit → ℕ → Option Commit
commit_with [] id = None
commit_with (c ∷ commits) id = cond (c.id == id) (Some c) (commit_with commits id)

-- the parents of a commit that are in the list, in their order
abbrev pub parents_in : List Commit → Commit → List Commit
parents_in commits c = filter_map (commit_with commits) c.parents.items

-- the ids of the commits of the list that have one of these ids
abbrev pub known_ids : List Commit → List ℕ → List ℕ
known_ids commits ids = ids_of (filter_map (commit_with commits) ids)

-- the graph of the ids: a commit's neighbors are its parents in the list
abbrev pub parent_graph : List Commit → Graph
parent_graph commits id = elim (commit_with commits id)
    [ None ↦ [] | Some c ↦ ids_of (parents_in commits c) ]

-- the two commits have equal times, ids, parents and descriptions
abbrev pub is_same : Commit → Commit → Bool
is_same c d = (c.time == d.time) && ((c.id == d.id)
    && (pointwise eqb c.parents.items d.parents.items && string_eq c.text d.text))

-- the list has this commit
abbrev pub has_commit : List Commit → Commit → Bool
has_commit commits c = elim (commit_with commits c.id) [ None ↦ false | Some d ↦ is_same d c ]

-- `order` has the commits of the list, each once, and after its parents that are in the list
pub record IsParentsFirst (commits order : List Commit) : Type 0 where
  pub among : (c : Commit) → Contains order c → has_commit commits c ≡ true
  pub all : (c : Commit) → Contains commits c → Contains (ids_of order) c.id
  pub once : IsDistinct eqb (ids_of order)
  pub before : (c p : Commit) → Contains commits c → Contains (parents_in commits c) p
      → Precedes (ids_of order) p.id c.id

-- the commit with this id is its own ancestor
abbrev pub IsOnCycle : List Commit → ℕ → Type 0
IsOnCycle commits id = OnCycleFrom (parent_graph commits) (ids_of commits) id
