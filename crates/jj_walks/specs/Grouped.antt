-- Histories of a grouped graph: which ids were prioritized, and which nodes were read and yielded,
-- in which order.
-- Cited by contracts of public items: Prioritized.
use Rattle.std.specs.Prelude.{◌≡◌, ℕ, zero, suc, ◌==◌, Bool, true, false, not, ◌&&◌, ◌||◌, count_by, List, [], ◌∷◌, map, filter, reverse, find, is_some, Option, None, Some, MatchOption, ⊤}
use Rattle.std.specs.List.{Contains, list_any, sum_by}
use Rattle.jj_walks.specs.declared.graph.GraphEdge.{GraphEdge}
use Rattle.jj_walks.specs.declared.graph.GraphEdgeType.{GraphEdgeType}
use Rattle.jj_walks.specs.declared.graph.GraphEdgeType.TheVariants.{Missing, Direct, Indirect}

-- a node of the input, with its id
pub record Entry (N ID : Type 0) : Type 0 where
  pub id : ID
  pub node : N
  pub edges : List (GraphEdge ID)

-- an id was prioritized, or a node was read or yielded
pub data Event (N ID : Type 0) : Type 0 where
  Prioritized : ID → Event N ID
  Read : Entry N ID → Event N ID
  Yielded : Entry N ID → Event N ID

-- the events, the newest first
abbrev pub History : Type 0 → Type 0 → Type 0
History N ID = List (Event N ID)

-- whether the target of an edge of this type is not missing
abbrev pub is_in_graph : GraphEdgeType → Bool
is_in_graph Missing = false
is_in_graph Direct = true
is_in_graph Indirect = true

-- the targets of the edges that are not missing
abbrev pub targets_of : {ID : Type 0} → List (GraphEdge ID) → List ID
targets_of edges = map (λ edge. edge.target) (filter (λ edge. is_in_graph edge.edge_type) edges)

-- the edges of the node that was yielded last
abbrev pub last_edges : {N ID : Type 0} → History N ID → List (GraphEdge ID)
last_edges [] = []
last_edges (Prioritized i ∷ h) = last_edges h
last_edges (Read e ∷ h) = last_edges h
last_edges (Yielded e ∷ h) = e.edges

-- whether the edge is not missing and leads to i
abbrev pub leads_to : {ID : Type 0} → (ID → ID → Bool) → ID → GraphEdge ID → Bool
leads_to eq i edge = is_in_graph edge.edge_type && eq edge.target i

-- the nodes that were read, the newest first
abbrev pub read_nodes : {N ID : Type 0} → History N ID → List (Entry N ID)
read_nodes [] = []
read_nodes (Prioritized i ∷ h) = read_nodes h
read_nodes (Read e ∷ h) = e ∷ read_nodes h
read_nodes (Yielded e ∷ h) = read_nodes h

-- the nodes that were yielded, the newest first
abbrev pub yielded_nodes : {N ID : Type 0} → History N ID → List (Entry N ID)
yielded_nodes [] = []
yielded_nodes (Prioritized i ∷ h) = yielded_nodes h
yielded_nodes (Read e ∷ h) = yielded_nodes h
yielded_nodes (Yielded e ∷ h) = e ∷ yielded_nodes h

-- the id that was prioritized first
abbrev pub first_prioritized : {N ID : Type 0} → History N ID → Option ID
first_prioritized [] = None
first_prioritized (Prioritized i ∷ []) = Some i
first_prioritized (Prioritized i ∷ event ∷ h) = first_prioritized (event ∷ h)
first_prioritized (Read e ∷ h) = first_prioritized h
first_prioritized (Yielded e ∷ h) = first_prioritized h

-- there is a walk of this many edges between the ids
abbrev pub IsIdWalkOfLength : {ID : Type 0} → (eq edge : ID → ID → Bool) → (from to : ID) → ℕ
    → Type 0
IsIdWalkOfLength eq edge from to zero = eq from to ≡ true
IsIdWalkOfLength {ID} eq edge from to (suc steps) = (i : ID) × (edge from i ≡ true)
    × IsIdWalkOfLength eq edge i to steps

-- one id reaches the other by zero or more edges
abbrev pub ReachesId : {ID : Type 0} → (eq edge : ID → ID → Bool) → (from to : ID) → Type 0
ReachesId eq edge from to = (steps : ℕ) × IsIdWalkOfLength eq edge from to steps

module _ {N ID : Type 0} (eq : ID → ID → Bool) where
  -- whether one of the nodes has the first id, and an edge to the second that is not missing
  abbrev pub has_edge : List (Entry N ID) → ID → ID → Bool
  has_edge nodes i j = list_any (λ e. eq e.id i && list_any (leads_to eq j) e.edges) nodes

  -- of nodes that were read, the newest first: none has an edge to itself or to one that was read
  -- before it
  abbrev pub AreReadChildFirst : List (Entry N ID) → Type 0
  AreReadChildFirst [] = ⊤
  AreReadChildFirst (e ∷ older) =
      ((f : Entry N ID) → Contains (e ∷ older) f → list_any (leads_to eq f.id) e.edges ≡ false)
      × AreReadChildFirst older

  -- the pending nodes: read and not yielded since
  abbrev pub pending_nodes : History N ID → List (Entry N ID)
  pending_nodes [] = []
  pending_nodes (Prioritized j ∷ h) = pending_nodes h
  pending_nodes (Read e ∷ h) = e ∷ pending_nodes h
  pending_nodes (Yielded e ∷ h) = filter (λ f. not (eq e.id f.id)) (pending_nodes h)

  -- the pending node with this id
  abbrev pub pending_at : History N ID → ID → Option (Entry N ID)
  pending_at h i = find (λ e. eq e.id i) (pending_nodes h)

  -- whether the id is required: prioritized, or the target of an edge that was read, and its node
  -- was not yielded since
  abbrev pub is_required : History N ID → ID → Bool
  is_required [] i = false
  is_required (Prioritized j ∷ h) i = eq j i || is_required h i
  is_required (Read e ∷ h) i = list_any (leads_to eq i) e.edges || is_required h i
  is_required (Yielded e ∷ h) i = not (eq e.id i) && is_required h i

  -- whether the id is required, or a node with it is pending
  abbrev pub is_known : History N ID → ID → Bool
  is_known h i = is_required h i || is_some (pending_at h i)

  -- the in-degree of the id over pending nodes
  abbrev pub pending_in_degree : History N ID → ID → ℕ
  pending_in_degree h i = sum_by (λ e. count_by (leads_to eq i) e.edges) (pending_nodes h)

  -- whether the id is pending or required, and no pending node has an edge to it
  abbrev pub is_unblocked : History N ID → ID → Bool
  is_unblocked h i = is_known h i && (pending_in_degree h i == 0)

  -- the last target of the node yielded last that is unblocked
  abbrev pub last_unblocked : History N ID → Option ID
  last_unblocked h = find (is_unblocked h) (reverse (targets_of (last_edges h)))

  -- the node may be yielded first: if nodes were read in topological order, and an id was
  -- prioritized first, the node reaches this id
  abbrev pub IsOfFirstBranch : History N ID → Entry N ID → Type 0
  IsOfFirstBranch h e = AreReadChildFirst (read_nodes h) → (required : ID)
      → first_prioritized h ≡ Some required → ReachesId eq (has_edge (read_nodes h)) e.id required

  -- the node may come next: it is pending, no pending node has an edge to it, it is the last
  -- unblocked target, if one is unblocked, and may be yielded first, if it is the first
  pub record IsNext (h : History N ID) (e : Entry N ID) : Type 0 where
    pub pending : pending_at h e.id ≡ Some e
    pub childless : pending_in_degree h e.id ≡ 0
    pub follows : MatchOption (last_unblocked h) ⊤ (λ i. eq i e.id ≡ true)
    pub first : yielded_nodes h ≡ [] → IsOfFirstBranch h e

  -- no node was read while one with its id was pending, and each node yielded was the next
  abbrev pub IsHistory : History N ID → Type 0
  IsHistory [] = ⊤
  IsHistory (Prioritized i ∷ h) = IsHistory h
  IsHistory (Read e ∷ h) = (pending_at h e.id ≡ None) × IsHistory h
  IsHistory (Yielded e ∷ h) = IsNext h e × IsHistory h
