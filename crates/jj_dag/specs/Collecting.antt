-- Nodes that a walk collected, each with the ids of its neighbors.
-- Cited by contracts of public items: IsFilled, index_in, neighbor_indices.
use Rattle.std.specs.Prelude.{◌≡◌, ℕ, ◌<◌, Bool, true, Option, Some, MatchOption, List, map, length, slice_index, ◌⊎◌}
use Rattle.std.specs.declared.result.Result.TheVariants.{Err}
use Rattle.std.specs.List.{Contains, filter_map}
use Rattle.std.specs.Map.{lookup}
use Rattle.jj_dag.specs.declared.greatest_order.IndexedGraph.{IndexedGraph}
use Rattle.jj_dag.specs.Graph.{HasEdge, ReachedFrom}
use Rattle.jj_dag.specs.FallibleGraphs.{FallibleGraph}
use Rattle.jj_dag.specs.Walk.{GraphModel}

-- the index of an id, by the entries of a map
abbrev pub index_in : {ID : Type 0} → (ID → ID → Bool) → List (ID × ℕ) → ID → Option ℕ
index_in eq entries i = lookup (eq i) entries

-- as many lists of ids as nodes, all of which are present, and each index is that of a node
pub record IsFilled {T ID : Type 0} (find : ID → Option ℕ) (found : IndexedGraph T ID)
    : Type 0 where
  pub visited : List T
  pub nodes : found.nodes.items ≡ map (λ x. Some x) visited
  pub ids : length found.neighbor_ids.items ≡ length visited
  pub indices : (i : ID) (k : ℕ) → find i ≡ Some k → k < length visited

-- the indices of the neighbors of each node
abbrev pub neighbor_indices : {T ID : Type 0} → (ID → Option ℕ) → IndexedGraph T ID → List (List ℕ)
neighbor_indices find found = map (λ v. filter_map find v.items) found.neighbor_ids.items

-- no number is at two indices
abbrev pub IsInjective : List ℕ → Type 0
IsInjective ns = (i j : ℕ) → i < length ns → j < length ns → slice_index ns i ≡ slice_index ns j
    → i ≡ j

module _ {T ID E : Type 0} (w : GraphModel T ID) (items : FallibleGraph E) where
  -- a look-up of an id returns the index of its node
  abbrev pub Finds : (ID → Option ℕ) → List ℕ → Type 0
  Finds find ns = (i : ID) → w.is_node (w.id i) ≡ true
      → MatchOption (find i) (Contains ns (w.id i) → ⊥)
      (λ k. (k < length ns) × (slice_index ns k ≡ w.id i))

  -- `work` is pending, `visited` was visited, and `ids` has the ids of the neighbors of each
  -- visited node
  pub record IsCollecting (starts : List ℕ) (find : ID → Option ℕ) (work visited : List T)
      (ids : List (List ID)) : Type 0 where
    pub pending_reached : (a : ℕ) → Contains (map w.node work) a → ReachedFrom w.graph starts a
    pub visited_reached : (a : ℕ) → Contains (map w.node visited) a → ReachedFrom w.graph starts a
    pub starts_visited : (a : ℕ) → Contains starts a → Contains (map w.node visited) a
        ⊎ Contains (map w.node work) a
    pub closed : (a b : ℕ) → Contains (map w.node visited) a → HasEdge w.graph a b
        → Contains (map w.node visited) b ⊎ Contains (map w.node work) b
    pub injective : IsInjective (map w.node visited)
    pub finds : Finds find (map w.node visited)
    pub lists : map (λ is. map w.id is) ids ≡ map w.graph (map w.node visited)
    pub none_failed : (a : ℕ) (e : E) → Contains (map w.node visited) a → Contains (items a) (Err e)
        → ⊥
