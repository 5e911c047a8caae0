-- Adjacency lists as graphs.
-- Cited by contracts of public items: graph_of_rows, row_at.
use Rattle.std.specs.Prelude.{ℕ, List, [], None, Some}
use Rattle.std.specs.Global.{Global}
use Rattle.std.specs.List.{slice_get}
use Rattle.std.specs.declared.vec.Vec.{Vec}
use Rattle.jj_dag.specs.Graph.{Graph}

-- the neighbors of a node; none past the last row
abbrev pub row_at : List (Vec ℕ Global) → ℕ → List ℕ
row_at rows node = elim (slice_get rows node) [ Some row ↦ row.items | None ↦ [] ]

-- the graph of an adjacency list
abbrev pub graph_of_rows : List (Vec ℕ Global) → Graph
graph_of_rows rows = row_at rows
