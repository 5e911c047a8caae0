-- The commits of a list, with edges to their parents.
-- Cited by contracts of public items: nodes_of.
use Rattle.std.specs.Prelude.{◌≡◌, ℕ, List, map, reverse, is_some, if◌then◌else◌, IsOkAnd, Result}
use Rattle.std.specs.List.{AllZip}
use Rattle.std.specs.Global.{Global}
use Rattle.std.specs.declared.vec.Vec.{Vec}
use denote.Ref.{Bor}
use Rattle.jj_walks.specs.declared.graph.GraphEdge.{GraphEdge}
use Rattle.jj_walks.specs.declared.graph.GraphEdgeType.TheVariants.{Missing, Direct}
use Rattle.jj_walks.specs.Grouped.{Entry}
use Rattle.jj_walks_tests.specs.declared.commits.Commit.{Commit}
use Rattle.jj_walks_tests.specs.Commits.{commit_with}

-- the edge to a parent is missing where the list has no such commit
abbrev pub parent_edge : List Commit → ℕ → GraphEdge ℕ
parent_edge commits id = record {
  target = id;
  edge_type = if is_some (commit_with commits id) then Direct else Missing;
}

abbrev pub parent_edges : List Commit → Commit → List (GraphEdge ℕ)
parent_edges commits c = map (parent_edge commits) c.parents.items

-- the node of a commit
abbrev pub node_of : List Commit → Bor Commit → Entry (Bor Commit) ℕ
node_of commits c = record { id = c.now.id; node = c; edges = parent_edges commits c.now }

-- the nodes of the commits, the last first
abbrev pub nodes_of : List Commit → List (Bor Commit) → List (Entry (Bor Commit) ℕ)
nodes_of commits shown = reverse (map (node_of commits) shown)

-- each item is a commit with its edges
abbrev pub ImplementsCommits : List Commit → List (Bor Commit)
    → List (Result (Bor Commit × Vec (GraphEdge ℕ) Global) ℕ) → Type 0
ImplementsCommits commits shown items = AllZip (λ c item. IsOkAnd item
    (λ x. (x.0 ≡ c) × (x.1.items ≡ parent_edges commits c.now))) shown items
