-- The graph of a log: commits with direct edges to their parents.
-- Cited by contracts of public items through Histories.
use Rattle.std.specs.Prelude.{◌≡◌, ◌++◌, ◌∷◌, [], ℕ, Bool, List, Option, Result, map, reverse}
use Rattle.std.specs.Fn.{Shared}
use Rattle.std.specs.Iterator.{Drains, Yields}
use Rattle.std.specs.declared.result.Result.TheVariants.{Ok, Err}
use denote.Ref.{Bor}
use Rattle.jj_walks.specs.Grouped.{Entry}
use Rattle.jj_walks.specs.GroupedSteps.{Steps, Item}
use Rattle.jj_walks.specs.PendingNodes.{listed_item}
use Rattle.jj_walks.specs.declared.graph.GraphEdge.{GraphEdge}
use Rattle.jj_walks.specs.declared.graph.GraphEdgeType.TheVariants.{Direct}
use Rattle.jj_walks.specs.declared.grouped.GroupedGraphError.{GroupedGraphError}
use Rattle.jj_walks.specs.declared.grouped.GroupedNodes.{GroupedNodes}
use Rattle.jj_store_walks.specs.declared.order.HistoryError.{HistoryError}
use Rattle.jj_store_walks.specs.declared.read_commit.ReadCommit.{ReadCommit}

-- direct edges to the ids
abbrev pub direct_edges : List (List ℕ) → List (GraphEdge (List ℕ))
direct_edges ids = map (λ id. record { target = id; edge_type = Direct }) ids

-- a commit with edges to its parents
abbrev pub log_node : ReadCommit → Entry ReadCommit (List ℕ)
log_node c = record { id = c.id; node = c; edges = direct_edges c.commit.parents }

-- the commits with edges to their parents, the last first
abbrev pub log_nodes : List ReadCommit → List (Entry ReadCommit (List ℕ))
log_nodes commits = reverse (map log_node commits)

-- the items of an input of a grouped graph, none of which fails
abbrev pub AreLogItems : List ReadCommit
    → List (Result (Item ReadCommit (List ℕ)) HistoryError) → Type 0
AreLogItems commits items = (nodes : List (Item ReadCommit (List ℕ)))
    × (items ≡ map (λ x. Ok x) nodes)
    × (map listed_item nodes ≡ map (λ c. (c, direct_edges c.commit.parents)) commits)

module _ {N ID S E F : Type 0} (ids : Shared F (Bor N × Unit {0}) (Bor ID))
    (eq : ID → ID → Bool) (steps : S → Option (Result (Item N ID) E) → S → Type 0)
    (nodes : GroupedNodes N ID S F) where
  -- the iterator yields these nodes and ends
  abbrev pub YieldsLogNodes : List N → Type 0
  YieldsLogNodes found = (items : List (Item N ID)) × (map (λ x. x.0) items ≡ found)
      × Drains (Steps ids eq steps) nodes (map (λ x. Ok x) items)

  -- the iterator yields some nodes, and then this error
  abbrev pub StopsWith : GroupedGraphError E → Type 0
  StopsWith error = (items : List (Item N ID)) × (t : GroupedNodes N ID S F)
      × Yields (Steps ids eq steps) nodes (map (λ x. Ok x) items ++ Err error ∷ []) t
