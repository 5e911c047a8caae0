-- Steps of the iterator over a grouped graph.
-- Cited by contracts of public items: CanRead, Steps, nodes_left.
use Rattle.std.specs.Prelude.{◌≡◌, ℕ, ◌+◌, Bool, true, false, cond, is_some, List, [], ◌∷◌, map, Option, None, Some, Result, Ok, Err, MatchBool}
use Rattle.std.specs.Iterator.{Count, IsFinite, Yields, size}
use Rattle.std.specs.Fn.{Shared, FnReturnsAt}
use Rattle.std.specs.List.{AllZip}
use Rattle.std.specs.HashMap.{hash_map_len}
use Rattle.std.specs.Global.{Global}
use Rattle.std.specs.declared.vec.Vec.{Vec}
use denote.Ref.{Bor}
use denote.Param.Always.{always_fn}
use Rattle.jj_walks.specs.declared.graph.GraphEdge.{GraphEdge}
use Rattle.jj_walks.specs.declared.grouped.TopoGroupedGraph.{TopoGroupedGraph}
use Rattle.jj_walks.specs.declared.grouped.GroupedNodes.{GroupedNodes}
use Rattle.jj_walks.specs.declared.grouped.GroupedGraphError.{GroupedGraphError}
use Rattle.jj_walks.specs.declared.grouped.GroupedGraphError.TheVariants.{Input, DuplicateId, MissingNode, NotChildFirst, Memory}
use Rattle.jj_walks.specs.Grouped.{Entry, History, Read, Yielded, IsHistory, pending_in_degree, pending_nodes, pending_at, is_required}
use Rattle.jj_walks.specs.PendingNodes.{Keeps, item_of, listed_item}

-- these nodes were read after that history
abbrev pub read_on : {N ID : Type 0} → List (Entry N ID) → History N ID → History N ID
read_on [] h = h
read_on (e ∷ es) h = read_on es (Read e ∷ h)

-- the item for the result of a step
abbrev pub as_item : {A E : Type 0} → Result (Option A) E → Option (Result A E)
as_item (Ok None) = None
as_item (Ok (Some x)) = Some (Ok x)
as_item (Err e) = Some (Err e)

-- nothing comes after `None` or an error
abbrev pub is_last : {A E : Type 0} → Option (Result A E) → Bool
is_last None = true
is_last (Some (Ok x)) = false
is_last (Some (Err e)) = true

-- a node and its edges, as the input yields them
abbrev pub Item : Type 0 → Type 0 → Type 0
Item N ID = N × Vec (GraphEdge ID) Global

-- an upper bound of the items left: each node pending or in the input, and an error
abbrev pub nodes_left : {N ID S F : Type 0} → (S → Count) → GroupedNodes N ID S F → ℕ
nodes_left left s = cond s.has_ended 0 (size
    (left s.graph.input) + hash_map_len s.graph.pending.nodes + 1)

module _ {N ID F : Type 0} (ids : Shared F (Bor N × Unit {0}) (Bor ID)) (eq : ID → ID → Bool) where
  -- the entry of an item, with an id equal to that which the closure returns
  pub record IsEntryOf (as_id : F) (item : Item N ID) (e : Entry N ID) : Type 0 where
    pub same : item_of e ≡ listed_item item
    pub id : (i : Bor ID) × FnReturnsAt ids as_id item.0 i × (eq i.now e.id ≡ true)

  module _ {S : Type 0} where
    -- the closure may always be called, clones are equal, and the input may be read and ends
    pub record CanRead (clone : ID → ID → Type 0) (can : S → Type 0) (left : S → Count)
        (s : TopoGroupedGraph N ID S F) : Type 0 where
      pub as_id : always_fn ids s.as_id
      pub clones : (i j : ID) → clone i j → eq i j ≡ true
      pub input : can s.input
      pub finite : IsFinite (left s.input)

    module _ {E : Type 0} (steps : S → Option (Result (Item N ID) E) → S → Type 0) where
      -- the input yielded these items and is at t
      pub record ReadsTo (as_id : F) (s : S) (items : List (Item N ID)) (reads : List (Entry N ID))
          (t : S) : Type 0 where
        pub yielded : Yields steps s (map Ok items) t
        pub entries : AllZip (IsEntryOf as_id) items reads

      -- the cause of an error when the history is h and the input is at s
      abbrev pub IsCause : F → History N ID → S → GroupedGraphError E → S → Type 0
      IsCause as_id h s (Input e) t = steps s (Some (Err e)) t
      IsCause as_id h s DuplicateId t = (item : Item N ID) × (e : Entry N ID)
          × steps s (Some (Ok item)) t × IsEntryOf as_id item e
          × (is_some (pending_at eq h e.id) ≡ true)
      IsCause as_id h s MissingNode t = (i : ID) × steps s None t × (is_required eq h i ≡ true)
          × (pending_at eq h i ≡ None)
      IsCause as_id h s NotChildFirst t = steps s None t × (pending_nodes eq h ≡ [] → ⊥)
          × ((i : ID) → is_some (pending_at eq h i) ≡ true → pending_in_degree eq h i ≡ 0 → ⊥)
      IsCause as_id h s Memory t = Unit {0}

      -- after the history h some nodes are read, and then: the input has ended, all nodes were
      -- yielded, and no id is required; or a node is yielded that may come next; or an error has
      -- its cause
      abbrev pub ReturnsNext : History N ID → TopoGroupedGraph N ID S F
          → Option (Result (Item N ID) (GroupedGraphError E)) → TopoGroupedGraph N ID S F → Type 0
      ReturnsNext h s None t = (items : List (Item N ID)) × (reads : List (Entry N ID)) × (u : S)
          × ReadsTo s.as_id s.input items reads u
          × steps u None t.input × IsHistory eq (read_on reads h)
          × (pending_nodes eq (read_on reads h) ≡ [])
          × ((i : ID) → is_required eq (read_on reads h) i ≡ false)
      ReturnsNext h s (Some (Ok x)) t = (items : List (Item N ID)) × (reads : List (Entry N ID))
          × (e : Entry N ID) × ReadsTo s.as_id s.input items reads t.input
          × (item_of e ≡ listed_item x) × Keeps eq (Yielded e ∷ read_on reads h) t.pending
          × (t.as_id ≡ s.as_id)
      ReturnsNext h s (Some (Err error)) t = (items : List (Item N ID))
          × (reads : List (Entry N ID)) × (u : S) × ReadsTo s.as_id s.input items reads u
          × IsHistory eq (read_on reads h) × IsCause s.as_id (read_on reads h) u error t.input

      -- one call of `next`; after the end it returns `None` and leaves the state as it was
      abbrev pub Steps : GroupedNodes N ID S F → Option (Result (Item N ID) (GroupedGraphError E))
          → GroupedNodes N ID S F → Type 0
      Steps s r t = MatchBool s.has_ended ((r ≡ None) × (t ≡ s))
          ((t.has_ended ≡ is_last r) × ((h : History N ID) → Keeps eq h s.graph.pending
          → ReturnsNext h s.graph r t.graph))
