-- A grouped order of the nodes of a list. Lists of nodes have the newest first.
-- Cited by contracts of public items through GroupedLaw, jj_store_walks.Histories.
use Rattle.std.specs.Prelude.{◌≡◌, Bool, true, false, not, ◌||◌, List, [], ◌∷◌, reverse, find, Option, Some, MatchOption, ⊤}
use Rattle.std.specs.List.{Contains, list_all, list_any}
use Rattle.jj_walks.specs.declared.graph.GraphEdge.{GraphEdge}
use Rattle.jj_walks.specs.Grouped.{AreReadChildFirst, Entry, Yielded, History, Prioritized, ReachesId, Read, has_edge, leads_to, read_nodes, targets_of}

-- the edges of the newest
abbrev pub newest_edges : {N ID : Type 0} → List (Entry N ID) → List (GraphEdge ID)
newest_edges [] = []
newest_edges (e ∷ older) = e.edges

-- the oldest is this one
abbrev pub IsOldest : {N ID : Type 0} → List (Entry N ID) → Entry N ID → Type 0
IsOldest [] e = ⊥
IsOldest (f ∷ []) e = f ≡ e
IsOldest (f ∷ g ∷ older) e = IsOldest (g ∷ older) e

-- the ids that were prioritised
abbrev pub prioritized_ids : {N ID : Type 0} → History N ID → List ID
prioritized_ids [] = []
prioritized_ids (Prioritized i ∷ h) = i ∷ prioritized_ids h
prioritized_ids (Read e ∷ h) = prioritized_ids h
prioritized_ids (Yielded e ∷ h) = prioritized_ids h

-- each was, before a node was read
abbrev pub PrioritizesFirst : {N ID : Type 0} → History N ID → Type 0
PrioritizesFirst [] = ⊤
PrioritizesFirst (Prioritized i ∷ h) = (read_nodes h ≡ []) × PrioritizesFirst h
PrioritizesFirst (Read e ∷ h) = PrioritizesFirst h
PrioritizesFirst (Yielded e ∷ h) = PrioritizesFirst h

module _ {N ID : Type 0} (eq : ID → ID → Bool) where
  -- one of the nodes has the id
  abbrev pub has_node : List (Entry N ID) → ID → Bool
  has_node nodes i = list_any (λ e. eq e.id i) nodes

  -- no two of the nodes have one id
  abbrev pub AreApart : List (Entry N ID) → Type 0
  AreApart [] = ⊤
  AreApart (e ∷ older) = (has_node older e.id ≡ false) × AreApart older

  -- the nodes of a graph, each after all that have an edge to it
  pub record IsWhole (nodes : List (Entry N ID)) : Type 0 where
    pub apart : AreApart nodes
    pub child_first : AreReadChildFirst eq nodes
    pub closed : (e : Entry N ID) (i : ID) → Contains nodes e
        → list_any (leads_to eq i) e.edges ≡ true → has_node nodes i ≡ true

  -- each of the nodes that has an edge to the id was yielded
  abbrev pub is_ready : (nodes yielded : List (Entry N ID)) → ID → Bool
  is_ready nodes yielded i =
      list_all (λ e. not (list_any (leads_to eq i) e.edges) || has_node yielded e.id) nodes

  -- one of the nodes that was not yielded yet and is ready; it is the last target of the newest
  -- that is ready, if one is
  pub record MayFollow (nodes yielded : List (Entry N ID)) (e : Entry N ID) : Type 0 where
    pub node : Contains nodes e
    pub new : has_node yielded e.id ≡ false
    pub ready : is_ready nodes yielded e.id ≡ true
    pub follows : MatchOption
        (find (is_ready nodes yielded) (reverse (targets_of (newest_edges yielded)))) ⊤
        (λ i. eq i e.id ≡ true)

  -- each node may follow those that were yielded before it
  abbrev pub AreGrouped : (nodes yielded : List (Entry N ID)) → Type 0
  AreGrouped nodes [] = ⊤
  AreGrouped nodes (e ∷ older) = MayFollow nodes older e × AreGrouped nodes older

  -- all nodes, each as it may follow those before it, and the first reaches the prioritized id
  pub record IsGroupedOrder (nodes : List (Entry N ID)) (required : Option ID)
      (yielded : List (Entry N ID)) : Type 0 where
    pub all : (e : Entry N ID) → Contains nodes e → Contains yielded e
    pub grouped : AreGrouped nodes yielded
    pub first : (e : Entry N ID) (i : ID) → IsOldest yielded e → required ≡ Some i
        → ReachesId eq (has_edge eq nodes) e.id i
