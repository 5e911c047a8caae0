-- Graphs of numbers, and the graphs of ids that they represent.
-- Machinery of private functions and fields.
use Rattle.std.specs.Prelude.{◌≡◌, ℕ, List, map}
use Rattle.std.specs.List.{Contains}
use Rattle.jj_dag.specs.Graph.{Graph}
use Rattle.jj_dag.specs.ArrayGraphs.{graph_of}
use Rattle.jj_program.specs.declared.listed_graph.ListedGraph.{ListedGraph}
use Rattle.jj_program.specs.Parts.{id_of}

-- the ids that are numbered
abbrev pub named_by : ListedGraph → List ℕ
named_by listed = listed.numbering.ids.items

-- the graph of the numbers
abbrev pub numbered_by : ListedGraph → Graph
numbered_by listed = graph_of listed.graph

-- The neighbors of each numbered id are those of its number, and all neighbors are numbered.
pub record Represents (listed : ListedGraph) (shown : Graph) : Type 0 where
  pub lists : map (map (id_of (named_by listed))) listed.graph ≡ map shown (named_by listed)
  pub named : (a b : ℕ) → Contains (shown a) b → Contains (named_by listed) b
