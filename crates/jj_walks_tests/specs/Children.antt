-- The children of the commits of a list.
-- Cited by contracts of public items: HaveChildren.
use Rattle.std.specs.Prelude.{◌≡◌, ◌↔◌, ℕ, List, map, reverse}
use Rattle.std.specs.List.{Contains}
use Rattle.std.specs.Global.{Global}
use Rattle.std.specs.declared.vec.Vec.{Vec}
use denote.Ref.{Bor}
use Rattle.jj_walks.specs.declared.graph.GraphEdge.{GraphEdge}
use Rattle.jj_walks_tests.specs.declared.commits.Commit.{Commit}

-- the id of a commit of the list that names this one as a parent
abbrev pub IsChildOf : List Commit → Commit → ℕ → Type 0
IsChildOf commits c id = (child : Commit) × Contains commits child × (child.id ≡ id)
    × Contains child.parents.items c.id

-- the commits from the last to the first, each with edges to exactly its children
pub record HaveChildren (commits : List Commit)
    (nodes : List (Bor Commit × Vec (GraphEdge ℕ) Global)) : Type 0 where
  pub order : map (λ node. node.0.now) nodes ≡ reverse commits
  pub children : (node : Bor Commit × Vec (GraphEdge ℕ) Global) → Contains nodes node → (id : ℕ)
      → Contains (map (λ edge. edge.target) node.1.items) id ↔ IsChildOf commits node.0.now id
