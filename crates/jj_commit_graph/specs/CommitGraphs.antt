-- The value of a commit graph, and the histories that have its commits.
-- Cited by contracts of public items: InEachHistoryOf, IsGraphOf.
use Rattle.std.specs.Prelude.{◌≡◌, ◌↔◌, ℕ, List, map, refl}
use Rattle.std.specs.Coded.{Coded, code_by, coded_list, coded_ℕ, coded×}
use Rattle.std.specs.List.{Contains}
use Rattle.jj_backend.specs.Objects.{Objects}
use Rattle.jj_dag.specs.NodeGraph.{ReachesNode}
use Rattle.jj_store_walks.specs.Histories.{InEachHistory, Parents}

-- the ids of commits, and at the index of each those of its parents
pub record CommitParents : Type 0 where
  pub ids : List (List ℕ)
  pub parents : List (List (List ℕ))

-- such a value is stored as the pair of its fields
abbrev pub commit_parents_code : Coded CommitParents
commit_parents_code =
    code_by (List (List ℕ) × List (List (List ℕ)))
    (coded× (coded_list (coded_list coded_ℕ)) (coded_list (coded_list (coded_list coded_ℕ))))
    (λ graph. (graph.ids, graph.parents))
    (λ pair. record { ids = pair.0; parents = pair.1 }) (λ _. refl)

-- the history has each commit of the graph with these parents
abbrev pub HasCommits : CommitParents → Parents → Type 0
HasCommits graph parents = map parents graph.ids ≡ graph.parents

-- P of each history that has the commits of the graph
abbrev pub InEachHistoryOf : CommitParents → (Parents → Type 0) → Type 0
InEachHistoryOf graph P = (parents : Parents) → HasCommits graph parents → P parents

-- each history that agrees with the store has the commits of the graph, and these are exactly the
-- ancestors of the starts
abbrev pub IsGraphOf : Objects → List (List ℕ) → CommitParents → Type 0
IsGraphOf store starts graph = InEachHistory store (λ parents. HasCommits graph parents
    × ((id : List ℕ) → Contains graph.ids id ↔ ReachesNode parents starts id))
