-- Items of a log in the input and the output of a grouped graph.
-- Machinery of private functions and fields.
use Rattle.std.specs.Prelude.{◌≡◌, ◌++◌, ◌∷◌, [], ℕ, Bool, true, false, List, Option, Result, map}
use Rattle.std.specs.Fn.{Shared}
use Rattle.std.specs.Global.{Global}
use Rattle.std.specs.Iterator.{Drains, Yields}
use Rattle.std.specs.List.{Contains, filter}
use Rattle.std.specs.declared.convert.Infallible.{Infallible}
use Rattle.std.specs.declared.result.Result.TheVariants.{Ok, Err}
use Rattle.std.specs.declared.vec.Vec.{Vec}
use denote.Ref.{Bor}
use Rattle.jj_walks.specs.GroupedSteps.{Item, Steps}
use Rattle.jj_walks.specs.PendingNodes.{listed_item}
use Rattle.jj_walks.specs.declared.graph.GraphEdge.{GraphEdge}
use Rattle.jj_walks.specs.declared.grouped.GroupedGraphError.{GroupedGraphError}
use Rattle.jj_walks.specs.declared.grouped.GroupedNodes.{GroupedNodes}
use Rattle.jj_log.specs.Edges.{AreEdges}
use Rattle.jj_log.specs.Logs.{LogNode, numbers_of}
use Rattle.jj_log.specs.Numbers.{is_visible}
use Rattle.jj_log.specs.declared.commits.NumberedCommit.{NumberedCommit}

-- an item that does not fail
abbrev pub LogItem : Type 0
LogItem = Result (Item ℕ ℕ) Infallible

-- items, none of which fails, of these nodes
pub record AreItemsOf (nodes : List LogNode) (items : List LogItem) : Type 0 where
  pub found : List (Item ℕ ℕ)
  pub none_fails : items ≡ map (λ x. Ok x) found
  pub same : map listed_item found ≡ nodes

-- the visible ones of these numbers, with their edges
pub record AreVisibleItems (commits : List NumberedCommit) (numbers : List ℕ) (items : List LogItem)
    : Type 0 where
  pub nodes : List LogNode
  pub are : AreItemsOf nodes items
  pub visible : numbers_of nodes ≡ filter (is_visible commits) numbers
  pub edges : (node : LogNode) → Contains nodes node → AreEdges commits node.0 node.1

-- an item is added for the number, if it is visible
pub record AddsVisible (commits : List NumberedCommit) (n : ℕ) (old new : List LogItem)
    : Type 0 where
  pub visible : is_visible commits n ≡ true → (edges : Vec (GraphEdge ℕ) Global)
      × (new ≡ old ++ Ok (n, edges) ∷ []) × AreEdges commits n edges.items
  pub hidden : is_visible commits n ≡ false → new ≡ old

module _ {N ID S E F : Type 0} (ids : Shared F (Bor N × Unit {0}) (Bor ID))
    (eq : ID → ID → Bool) (steps : S → Option (Result (Item N ID) E) → S → Type 0)
    (nodes : GroupedNodes N ID S F) where
  -- the iterator yields these nodes and ends
  abbrev pub YieldsItems : List (Item N ID) → Type 0
  YieldsItems found = Drains (Steps ids eq steps) nodes (map (λ x. Ok x) found)

  -- the iterator yields some nodes, and then this error
  abbrev pub StopsWith : GroupedGraphError E → Type 0
  StopsWith error = (items : List (Item N ID)) × (t : GroupedNodes N ID S F)
      × Yields (Steps ids eq steps) nodes (map (λ x. Ok x) items ++ Err error ∷ []) t
