-- The reverse of a graph: its nodes from the last to the first, each with its incoming edges.
-- Cited by contracts of public items through Reversing.
use Rattle.std.specs.Prelude.{◌≡◌, Bool, List, [], ◌∷◌, ◌++◌, map, filter, reverse, if◌then◌else◌}
use Rattle.std.specs.List.{AllZip, list_any}
use Rattle.std.specs.Global.{Global}
use Rattle.std.specs.declared.vec.Vec.{Vec}
use Rattle.jj_walks.specs.declared.graph.GraphEdge.{GraphEdge}

-- a graph as a list of nodes, each with its edges
abbrev pub EdgeLists : Type 0 → Type 0 → Type 0
EdgeLists N ID = List (N × List (GraphEdge ID))

-- the graph of these nodes
abbrev pub edge_lists : {N ID : Type 0} → List (N × Vec (GraphEdge ID) Global) → EdgeLists N ID
edge_lists {N} {ID} nodes = map {B = N × List (GraphEdge ID)}
    (λ entry. (entry.0, entry.1.items)) nodes

-- the edge of the same type to this node
abbrev pub edge_to : {N ID : Type 0} → N → GraphEdge ID → GraphEdge N
edge_to node edge = record { target = node; edge_type = edge.edge_type }

module _ {N ID : Type 0} (eq : ID → ID → Bool) where
  -- an edge to the node for each of its edges that leads to i
  abbrev pub reversed_edges : ID → N → List (GraphEdge ID) → List (GraphEdge N)
  reversed_edges i node edges = map (edge_to node) (filter (λ edge. eq edge.target i) edges)

  -- the edges of all nodes that lead to i, in the order of the nodes
  abbrev pub incoming_edges : ID → EdgeLists N ID → List (GraphEdge N)
  incoming_edges i [] = []
  incoming_edges i (entry ∷ graph) = reversed_edges i entry.0 entry.1 ++ incoming_edges i graph

  module _ (id : N → ID) where
    -- each of the nodes with the edges that lead to it, which a node has only where no later one
    -- has its id
    abbrev pub with_incoming : EdgeLists N ID → List N → EdgeLists N N
    with_incoming graph [] = []
    with_incoming graph (node ∷ later) = (
      node,
      if list_any (λ other. eq (id other) (id node)) later then [] else incoming_edges
          (id node) graph,
    ) ∷ with_incoming graph later

    -- the nodes from the last to the first
    abbrev pub reversed_graph : EdgeLists N ID → EdgeLists N N
    reversed_graph graph = reverse (with_incoming graph (map (λ entry. entry.0) graph))

module _ {N ID : Type 0} (clone : ID → ID → Type 0) (id : N → ID) where
  -- an edge of the same type to a clone of the node's id
  abbrev pub LeadsToId : GraphEdge N → GraphEdge ID → Type 0
  LeadsToId edge returned = clone (id edge.target) returned.target
      × (returned.edge_type ≡ edge.edge_type)

  -- each node with such edges instead of those to nodes
  abbrev pub HasEdgesById : EdgeLists N N → EdgeLists N ID → Type 0
  HasEdgesById graph returned = AllZip (λ expected actual. (actual.0 ≡ expected.0)
      × AllZip LeadsToId expected.1 actual.1) graph returned
