-- Graphs as lists of neighbors: those of a node are the list at its index.
-- Cited by contracts of public items: HasCycle, graph_of.
use Rattle.std.specs.Prelude.{ℕ, List, [], get_or}
use Rattle.jj_dag.specs.Graph.{Graph, StrictlyReaches}

-- the graph of the lists: a number without a list has no neighbors
abbrev pub graph_of : List (List ℕ) → Graph
graph_of lists node = get_or lists node []

-- some node strictly reaches itself
abbrev pub HasCycle : Graph → Type 0
HasCycle graph = (node : ℕ) × StrictlyReaches graph node node
