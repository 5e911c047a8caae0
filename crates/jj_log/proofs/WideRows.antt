-- The error of a node that does not fit below the rows before it.
use Rattle.std.proofs.Common.{◌≡◌, ◌⊎◌, inl, inr, ◌∙◌, ℕ, ◌<◌, List, [], ◌∷◌, ◌++◌, map, sym, ap, subst, append_assoc}
use Rattle.std.proofs.lemmas.List.{map-append}
use Rattle.jj_walks.specs.PendingNodes.{listed_item}
use Rattle.jj_walks.specs.declared.graph.GraphEdge.{GraphEdge}
use Rattle.std.specs.Global.{Global}
use Rattle.std.specs.declared.vec.Vec.{Vec}
use Rattle.jj_log.specs.Columns.{AreRows, node_of_row, widest_line}
use Rattle.jj_log.specs.Failures.{IsLayoutError}
use Rattle.jj_log.specs.declared.fault.LogError.{LogError}
use Rattle.jj_log.specs.declared.fault.LogError.TheVariants.{Memory, TooWide}
use Rattle.jj_log.specs.declared.layout.Row.{Row}

abbrev pub ListedNode : Type 0
ListedNode = ℕ × Vec (GraphEdge ℕ) Global

pub row_error : (most : ℕ) (nodes yielded rest : List ListedNode) (x : ListedNode) (rows : List Row) (columns : List ℕ) (error : LogError) → nodes ≡ (yielded ++ x ∷ []) ++ rest → map node_of_row rows ≡ map listed_item yielded → AreRows most [] rows columns
    → (error ≡ Memory) ⊎ ((error ≡ TooWide x.0) × (most < widest_line columns (listed_item x))) → IsLayoutError most (map listed_item nodes) error
row_error most nodes yielded rest x rows columns error split same above (inl memory) = subst (IsLayoutError most (map listed_item nodes)) (sym memory) tt
row_error most nodes yielded rest x rows columns error split same above (inr (wide, more)) = subst (IsLayoutError most (map listed_item nodes)) (sym wide) (record {
  rows = rows;
  columns = columns;
  above = above;
  edges = x.1.items;
  later = map listed_item rest;
  nodes_are = ap (map listed_item) (split ∙ append_assoc yielded (x ∷ []) rest) ∙ map-append listed_item yielded (x ∷ rest) ∙ ap (λ l. l ++ listed_item x ∷ map listed_item rest) (sym same);
  wide = more;
})
