-- Rows of a drawing. Columns are a list: the commit that each of them leads to.
-- Cited by contracts of public items: AreRows, IsRow, node_of_row, widest_line.
use Rattle.std.specs.Prelude.{◌≡◌, ◌≢◌, ◌↔◌, ◌⊎◌, ◌==◌, ◌<◌, ◌≤◌, ◌+◌, ◌-◌, ◌++◌, ◌∷◌, [], ℕ, true, List, cond, length, map, slice_index, eqb}
use Rattle.std.specs.List.{Contains, IsDistinct, list_any}
use Rattle.jj_walks.specs.declared.graph.GraphEdge.{GraphEdge}
use Rattle.jj_walks.specs.Grouped.{is_in_graph, targets_of}
use Rattle.jj_log.specs.Logs.{LogNode}
use Rattle.jj_log.specs.declared.layout.Row.{Row}

-- the commit of a row and its edges
abbrev pub node_of_row : Row → LogNode
node_of_row row = (row.node, row.edges.items)

-- the columns in the line of a node: one is added if none leads to it
abbrev pub opened : List ℕ → ℕ → List ℕ
opened columns n = cond (list_any (λ t. t == n) columns) columns (columns ++ n ∷ [])

-- the columns in the widest line of a node: one more for each of its edges but the first
abbrev pub widest_line : List ℕ → LogNode → ℕ
widest_line columns node = length (opened columns node.0) + (length node.1 - 1)

-- The node is in the column that leads to it. Below it there is a column for each commit that a
-- column led to before, except the node, and for each target of its edges that is not missing;
-- no two of them lead to one commit. No line has more columns than `most`.
pub record IsRow (most : ℕ) (before : List ℕ) (row : Row) (after : List ℕ) : Type 0 where
  pub width : row.width ≡ length (opened before row.node)
  pub within : row.column < row.width
  pub column : slice_index (opened before row.node) row.column ≡ row.node
  pub pending : IsDistinct eqb before → (t : ℕ) → Contains after t
      ↔ ((Contains before t × (t ≢ row.node)) ⊎ Contains (targets_of row.edges.items) t)
  pub once : IsDistinct eqb before → IsDistinct eqb after
  pub fits : widest_line before (node_of_row row) ≤ most

-- rows, each with the columns that the one before it leaves
abbrev pub AreRows : ℕ → List ℕ → List Row → List ℕ → Type 0
AreRows most before [] after = before ≡ after
AreRows most before (row ∷ rows) after = (next : List ℕ) × IsRow most before row next
    × AreRows most next rows after

-- the node with this number needs more than `most` columns, below the rows of those before it
pub record IsTooWide (most : ℕ) (nodes : List LogNode) (n : ℕ) : Type 0 where
  pub rows : List Row
  pub columns : List ℕ
  pub above : AreRows most [] rows columns
  pub edges : List (GraphEdge ℕ)
  pub later : List LogNode
  pub nodes_are : nodes ≡ map node_of_row rows ++ (n, edges) ∷ later
  pub wide : most < widest_line columns (n, edges)

-- an edge needs a column for this target that is not left of the node
abbrev pub NeedsColumn : List ℕ → GraphEdge ℕ → ℕ → Type 0
NeedsColumn left edge t = (is_in_graph edge.edge_type ≡ true) × (edge.target ≡ t)
    × (Contains left t → ⊥)

-- the new columns are the old ones and that of the edge, each once if they were
pub record Settles (left : List ℕ) (edge : GraphEdge ℕ) (old new : List ℕ) : Type 0 where
  pub all : (t : ℕ) → Contains new t ↔ (Contains old t ⊎ NeedsColumn left edge t)
  pub once : IsDistinct eqb old → IsDistinct eqb new

-- or those of all edges
pub record SettlesAll (left : List ℕ) (edges : List (GraphEdge ℕ)) (old new : List ℕ)
    : Type 0 where
  pub all : (t : ℕ) → Contains new t ↔ (Contains old t
      ⊎ ((edge : GraphEdge ℕ) × Contains edges edge × NeedsColumn left edge t))
  pub once : IsDistinct eqb old → IsDistinct eqb new
