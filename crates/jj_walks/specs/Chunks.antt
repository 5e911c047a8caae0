-- Chunks of a topological order: some of the reachable nodes, and the starts of the remaining ones.
-- Cited by contracts of public items: IsNextChunk.
use Rattle.std.specs.Prelude.{◌≡◌, ◌↔◌, ◌⊎◌, ℕ, ◌≤◌, List, [], ◌∷◌, ◌++◌, length, eqb}
use Rattle.std.specs.List.{Contains, IsDistinct}
use Rattle.jj_dag.specs.Graph.{Graph, ReachedFrom, IsAcyclicFrom, StrictlyReaches, Precedes}

-- The chunk has no node twice, and the nodes reachable from the starts are those of the chunk and
-- those reachable from the starts left. If the starts reach no cycle, the chunk is in topological
-- order, and no node of it is reachable from the starts left.
pub record IsChunk (g : Graph) (starts chunk left : List ℕ) : Type 0 where
  pub once : IsDistinct eqb chunk
  pub reached : (a : ℕ) → ReachedFrom g starts a ↔ (Contains chunk a ⊎ ReachedFrom g left a)
  pub before : IsAcyclicFrom g starts → (a b : ℕ) → Contains chunk a → Contains chunk b
      → StrictlyReaches g a b → Precedes chunk a b
  pub apart : IsAcyclicFrom g starts → (a : ℕ) → Contains chunk a → ReachedFrom g left a → ⊥

-- the chunk of several starts has them all, and at most one node is left
pub record IsChunkOfMany (g : Graph) (starts chunk left : List ℕ) : Type 0 where
  pub is_chunk : IsChunk g starts chunk left
  pub has_starts : (a : ℕ) → Contains starts a → Contains chunk a
  pub few : length left ≤ 1

-- of no start the chunk is empty; of one it is that node, whose neighbors are left; of several it
-- has them all, and at most one node is left
pub record IsNextChunk (g : Graph) (starts chunk left : List ℕ) : Type 0 where
  pub is_chunk : IsChunk g starts chunk left
  pub of_none : starts ≡ [] → (chunk ≡ []) × (left ≡ [])
  pub of_one : (a : ℕ) → starts ≡ a ∷ [] → (chunk ≡ a ∷ []) × (left ≡ g a)
  pub of_many : 2 ≤ length starts → ((a : ℕ) → Contains starts a → Contains chunk a)
      × (length left ≤ 1)

-- each edge of a node of the list leads to a later node of it, or to one that is left
abbrev pub LeadsForward : Graph → List ℕ → List ℕ → Type 0
LeadsForward g order left = (prefix suffix : List ℕ) (a b : ℕ) → order ≡ prefix ++ a ∷ suffix
    → Contains (g a) b → Contains suffix b ⊎ Contains left b

-- each node of the list strictly reaches each one that is left
abbrev pub AreAbove : Graph → List ℕ → List ℕ → Type 0
AreAbove g order left = (a b : ℕ) → Contains order a → Contains left b → StrictlyReaches g a b

-- the properties of a chunk on any graph, with or without a cycle: it has the starts, no node
-- twice, and only reachable nodes; its edges lead forward, and it is above the nodes left
pub record IsChunkOfAnyGraph (g : Graph) (starts chunk left : List ℕ) : Type 0 where
  pub once : IsDistinct eqb chunk
  pub has_starts : (a : ℕ) → Contains starts a → Contains chunk a
  pub reached : (a : ℕ) → Contains chunk a ⊎ Contains left a → ReachedFrom g starts a
  pub forward : LeadsForward g chunk left
  pub above : AreAbove g chunk left

-- the nodes ordered so far are reachable from the starts, and a repeated one is on a cycle
pub record IsOrderPrefix (g : Graph) (starts order : List ℕ) : Type 0 where
  pub reached : (a : ℕ) → Contains order a → ReachedFrom g starts a
  pub repeated : (prefix suffix : List ℕ) (a : ℕ) → order ≡ prefix ++ a ∷ suffix → Contains prefix a
      → StrictlyReaches g a a

-- the order continues from the nodes left
pub record ContinuesFrom (g : Graph) (starts order left : List ℕ) : Type 0 where
  pub starts_visited : (a : ℕ) → Contains starts a → Contains order a ⊎ Contains left a
  pub left_reached : (a : ℕ) → Contains left a → ReachedFrom g starts a
  pub forward : LeadsForward g order left
  pub above : AreAbove g order left
