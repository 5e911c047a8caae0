-- Graphs as adjacency lists: the neighbors of a node are the list at its index.
-- Cited by contracts of public items: graph_of.
use Rattle.std.specs.Prelude.{ℕ, List, map}
use Rattle.std.specs.Global.{Global}
use Rattle.std.specs.declared.vec.Vec.{Vec}
use Rattle.jj_dag.specs.ArrayGraphs as array
use Rattle.jj_dag.specs.Graph.{Graph}

-- the graph of the lists: a number without a list has no neighbor
abbrev pub graph_of : List (Vec ℕ Global) → Graph
graph_of lists = array.graph_of (map (λ list. list.items) lists)
