-- The law of whole runs of a grouped graph.
-- Cited by contracts of public items: FailsForCause, YieldsGroupedOrders.
use Rattle.std.specs.Prelude.{◌≡◌, Bool, false, true, List, [], ◌∷◌, ◌++◌, map, reverse, Option, None, Some, Result}
use Rattle.std.specs.declared.result.Result.TheVariants.{Ok, Err}
use Rattle.std.specs.Fn.{Shared}
use Rattle.std.specs.Iterator.{Drains, Yields}
use Rattle.std.specs.List.{AllZip, Contains}
use denote.Ref.{Bor}
use Rattle.jj_walks.specs.declared.grouped.GroupedGraphError.{GroupedGraphError}
use Rattle.jj_walks.specs.declared.grouped.GroupedGraphError.TheVariants.{Input, DuplicateId, MissingNode, NotChildFirst, Memory}
use Rattle.jj_walks.specs.declared.grouped.GroupedNodes.{GroupedNodes}
use Rattle.jj_walks.specs.Grouped.{Entry, Prioritized}
use Rattle.jj_walks.specs.GroupedOrders.{IsGroupedOrder, IsWhole, has_node}
use Rattle.jj_walks.specs.GroupedSteps.{Steps, IsEntryOf, Item}
use Rattle.jj_walks.specs.PendingNodes.{Keeps, item_of, listed_item}

-- the first element, if there is one
abbrev pub first_of : {A : Type 0} → List A → Option A
first_of [] = None
first_of (x ∷ xs) = Some x

module _ {N ID S E F : Type 0} (ids : Shared F (Bor N × Unit {0}) (Bor ID)) (eq : ID → ID → Bool)
    (steps : S → Option (Result (Item N ID) E) → S → Type 0) where
  -- The iterator over a graph of this input: no node was read, and these ids were prioritized, in
  -- this order.
  pub record IsUnread (as_id : F) (input : S) (prioritized : List ID) (s : GroupedNodes N ID S F)
      : Type 0 where
    pub has_ended : s.has_ended ≡ false
    pub same_as_id : s.graph.as_id ≡ as_id
    pub same_input : s.graph.input ≡ input
    pub keeps : Keeps eq (reverse (map (λ i. Prioritized i) prioritized)) s.graph.pending

  -- The input yields `nodes` and ends, and `entries` are these with their ids. `order` are the
  -- entries of the nodes that were yielded. Where the input is in topological order, it is the
  -- grouped order: each node of the input once, children before parents, each followed by the last
  -- of its targets that is ready, if one is; the first node reaches the id prioritized first.
  pub record IsGroupedRun (as_id : F) (input : S) (prioritized : List ID)
      (yielded : List (Item N ID)) : Type 0 where
    pub nodes : List (Item N ID)
    pub read : Drains steps input (map (λ x. Ok x) nodes)
    pub entries : List (Entry N ID)
    pub have_ids : AllZip (IsEntryOf ids eq as_id) nodes entries
    pub order : List (Entry N ID)
    pub listed : AllZip (λ e x. item_of e ≡ listed_item x) order yielded
    pub grouped : IsWhole eq (reverse entries)
        → IsGroupedOrder eq (reverse entries) (first_of prioritized) (reverse order)

  -- each complete run without an error yields a grouped order
  abbrev pub YieldsGroupedOrders : Type 0
  YieldsGroupedOrders = (as_id : F) (input : S) (prioritized : List ID) (s : GroupedNodes N ID S F)
      (yielded : List (Item N ID)) → IsUnread as_id input prioritized s
      → Drains (Steps ids eq steps) s (map (λ x. Ok x) yielded)
      → IsGroupedRun as_id input prioritized yielded

  -- Why a run fails once the input has yielded nodes with these entries and is at `at`: the next
  -- item is an error, or a node whose id one of the entries has; or the input has ended and is in
  -- no topological order, or lacks a node that was prioritized. Memory may run out at any time.
  abbrev pub Explains : F → List ID → List (Entry N ID) → S → GroupedGraphError E → Type 0
  Explains as_id prioritized entries at (Input e) = (t : S) × steps at (Some (Err e)) t
  Explains as_id prioritized entries at DuplicateId = (t : S) × (node : Item N ID)
      × (entry : Entry N ID) × steps at (Some (Ok node)) t × IsEntryOf ids eq as_id node entry
      × (has_node eq (reverse entries) entry.id ≡ true)
  Explains as_id prioritized entries at MissingNode = (t : S) × steps at None t
      × (IsWhole eq (reverse entries)
      → ((i : ID) → Contains prioritized i → has_node eq (reverse entries) i ≡ true) → ⊥)
  Explains as_id prioritized entries at NotChildFirst = (t : S) × steps at None t
      × (IsWhole eq (reverse entries) → ⊥)
  Explains as_id prioritized entries at Memory = Unit {0}

  -- a run failed for this reason, after the input had yielded these nodes
  pub record IsFailedRun (as_id : F) (input : S) (prioritized : List ID)
      (error : GroupedGraphError E) : Type 0 where
    pub nodes : List (Item N ID)
    pub at : S
    pub read : Yields steps input (map (λ x. Ok x) nodes) at
    pub entries : List (Entry N ID)
    pub have_ids : AllZip (IsEntryOf ids eq as_id) nodes entries
    pub explained : Explains as_id prioritized entries at error

  -- each error of a run has such a cause
  abbrev pub FailsForCause : Type 0
  FailsForCause = (as_id : F) (input : S) (prioritized : List ID) (s t : GroupedNodes N ID S F)
      (yielded : List (Item N ID)) (error : GroupedGraphError E)
      → IsUnread as_id input prioritized s
      → Yields (Steps ids eq steps) s (map (λ x. Ok x) yielded ++ Err error ∷ []) t
      → IsFailedRun as_id input prioritized error
